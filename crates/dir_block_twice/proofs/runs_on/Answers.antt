use Rattle.dir_block_twice.proofs.TwinWalk.{runs_last, runs_next}
use Rattle.dir_block_twice.proofs.runs_on.Goals as goal

pub returns-then-j-n : goal.returns-then-j-n
returns-then-j-n c =
    runs_next _ _ _ _ (λ k. (c.type_inv.b k).fits) c.requires.0 _ _ c.if-j-n.true c.le32.ensures.0 c.le32-then-j-n.ensures.0

pub returns : goal.returns
returns c = runs_last _ _ _ _ c.if-j-n.false
