use native.Mathlib.Omega.{arith}
use mathlib.Core.Path.{sym, ◌∙◌}
use Rattle.attr_sf.proofs.Tiling.{left_all, left_stop, left_next, distinct_fails, distinct_on, distinct_done, next_fits, next_tiled}
use Rattle.attr_sf.proofs.Entries.once.Goals as goal

pub loop-i-init : goal.loop-i-init
loop-i-init c = left_all _ _ _ _

pub invariant_of-entry : goal.invariant_of-entry
invariant_of-entry c = record { inside = next_fits _ _ c.loop-i.invariant c.args.self.tiling c.loop-i-test.true c.args.self.inside }

pub invariant_of-rest : goal.invariant_of-rest
invariant_of-rest c = record {
  inside = c.args.self.inside;
  tiling = rw c.next-next.ensures (next_tiled _ _ c.loop-i.invariant c.args.self.tiling c.loop-i-test.true);
}

pub returns-then-again : goal.returns-then-again
returns-then-again c = left_stop c.loop-i.invariant (distinct_fails _ _ _ (omega (arith, c.loop-i-test.true)) (rw c.next-next.ensures at (sym c.again.ensures ∙ c.if-again.true)))

pub loop-i-preserved : goal.loop-i-preserved
loop-i-preserved c = left_next c.loop-i.invariant c.loop-i-test.true c.next-next.ensures
    (distinct_on _ _ _ (omega (arith, c.loop-i-test.true)) (rw c.next-next.ensures at (sym c.again.ensures ∙ c.if-again.false)))

pub returns : goal.returns
returns c = left_stop c.loop-i.invariant (distinct_done _ _ _ (omega (arith, c.loop-i-test.false)))
