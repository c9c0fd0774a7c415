use native.Mathlib.Omega.{arith}
use mathlib.Core.Bool.{false≢true}
use Rattle.dir_block_twice.proofs.SortedSlots.{ranked_on, ranked_all}
use Rattle.dir_block_twice.proofs.Slots.ranked.Goals as goal

pub loop-i-init : goal.loop-i-init
loop-i-init c = λ k l. absurd (omega arith)

pub returns-then-live-placed : goal.returns-then-live-placed
returns-then-live-placed c = λ z. absurd (false≢true z)

pub loop-i-preserved : goal.loop-i-preserved
loop-i-preserved c = ranked_on _ _ _ _ _ _ _ c.loop-i.invariant _ _ c.live.ensures c.placed.ensures c.if-live-placed.false

pub returns : goal.returns
returns c = λ z. ranked_all _ _ _ _ _ _ _ c.loop-i.invariant c.loop-i-test.false
