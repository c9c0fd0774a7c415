use native.Mathlib.Omega.{arith}
use Rattle.dir_block_test.proofs.WholeRecord.{rec_gap, rec_short, rec_entry}
use Rattle.dir_block_test.proofs.rec_len.Goals as goal

pub returns-then-is_gap : goal.returns-then-is_gap
returns-then-is_gap c =
    rec_gap _ _ _ _ c.requires.o_bound _ _ c.is_gap.ensures c.if-is_gap.true c.be16.ensures

pub entry_size-requires : goal.entry_size-requires
entry_size-requires c = (c.requires.sane, omega arith)

pub returns-then-t-o-lt9 : goal.returns-then-t-o-lt9
returns-then-t-o-lt9 c =
    rec_short _ _ _ _ c.requires.o_bound _ _ c.is_gap.ensures c.if-is_gap.false c.if-t-o-lt9.true c.entry_size.ensures.0 c.entry_size.ensures.1.1

pub entry_size-requires-2 : goal.entry_size-requires-2
entry_size-requires-2 c = (c.requires.sane, c.be8.ensures.1)

pub returns : goal.returns
returns c =
    rec_entry _ _ _ _ c.requires.o_bound _ _ _ c.is_gap.ensures c.if-is_gap.false c.if-t-o-lt9.false c.be8.ensures.0 c.entry_size-2.ensures.0 c.entry_size-2.ensures.1.1
