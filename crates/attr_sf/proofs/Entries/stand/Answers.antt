use native.Mathlib.Omega.{arith}
use Rattle.records.proofs.Starts.{stands_here, stands_on, stands_done}
use Rattle.attr_sf.proofs.Tiling.{left_all, left_stop, left_next, next_fits}
use Rattle.attr_sf.proofs.Entries.stand.Goals as goal

pub loop-init : goal.loop-init
loop-init c = left_all _ _ _ _

pub returns-then-place-at : goal.returns-then-place-at
returns-then-place-at c = left_stop c.loop.invariant (stands_here _ _ _ _ (omega (arith, c.loop-test.true)) c.if-place-at.true)

pub invariant_of-entry : goal.invariant_of-entry
invariant_of-entry c = record { inside = next_fits _ _ c.loop.invariant c.args.self.tiling c.loop-test.true c.args.self.inside }

pub loop-preserved : goal.loop-preserved
loop-preserved c = left_next c.loop.invariant c.loop-test.true c.next-at.ensures (stands_on _ _ _ _ (omega (arith, c.loop-test.true)) c.if-place-at.false)

pub returns : goal.returns
returns c = left_stop c.loop.invariant (stands_done _ _ _ _ (omega (arith, c.loop-test.false)))
