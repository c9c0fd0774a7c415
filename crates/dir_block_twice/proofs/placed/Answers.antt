use mathlib.Core.Bool.{false≢true}
use Rattle.dir_block_twice.proofs.SortedSlots.{placed_is}
use Rattle.dir_block_twice.proofs.placed.Goals as goal

pub returns-then-k-m : goal.returns-then-k-m
returns-then-k-m c = λ z. placed_is _ _ _ _ _ _ c.cell-k.ensures.0 c.if-k-m.true c.cell.ensures.0 z

pub returns : goal.returns
returns c = λ z. absurd (false≢true z)
