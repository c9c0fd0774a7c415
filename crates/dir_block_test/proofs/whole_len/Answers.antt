use native.Mathlib.Omega.{arith}
use mathlib.Core.Path.{sym, ◌∙◌}
use Rattle.dir_block_test.proofs.WholeRecord.{len_short, len_long, len_uneven, len_untagged, len_good}
use Rattle.dir_block_test.proofs.whole_len.Goals as goal

pub returns-then-n-lt8 : goal.returns-then-n-lt8
returns-then-n-lt8 c =
    len_short _ _ _ _ c.requires.o_bound _ c.rec_len-n.ensures.0 c.if-n-lt8.true

pub returns-then-t-o : goal.returns-then-t-o
returns-then-t-o c =
    len_long _ _ _ _ c.requires.o_bound _ c.rec_len-n.ensures.0 c.if-t-o.true

pub returns-then-n-ne0 : goal.returns-then-n-ne0
returns-then-n-ne0 c =
    len_uneven _ _ _ _ c.requires.o_bound _ c.rec_len-n.ensures.0 (omega arith) (omega arith) c.if-n-ne0.true

pub returns-then-be16-o : goal.returns-then-be16-o
returns-then-be16-o c =
    len_untagged _ _ _ _ c.requires.o_bound _ c.rec_len-n.ensures.0 (omega arith) (omega arith) (λ z. c.if-be16-o.true (c.be16.ensures.0 ∙ z))

pub returns : goal.returns
returns c =
    len_good _ _ _ _ c.requires.o_bound _ c.rec_len-n.ensures.0 (omega arith) (omega arith) c.if-n-ne0.false (sym c.be16.ensures.0 ∙ c.if-be16-o.false)
