use native.Mathlib.Omega.{arith}
use mathlib.Core.Path.{sym, ◌∙◌}
use Rattle.attr_sf.proofs.Tiling.{left_all, left_next, seek_on, find_hit, find_none, next_fits}
use Rattle.attr_sf.proofs.Entries.find.Goals as goal

pub loop-init : goal.loop-init
loop-init c = left_all _ _ _ _

pub invariant_of-entry : goal.invariant_of-entry
invariant_of-entry c = record { inside = next_fits _ _ c.loop.invariant c.args.self.tiling c.loop-test.true c.args.self.inside }

pub returns-then-has : goal.returns-then-has
returns-then-has c = find_hit _ _ _ _ c.loop.invariant c.args.self.tiling c.loop-test.true (sym c.has.ensures ∙ c.if-has.true)

pub loop-preserved : goal.loop-preserved
loop-preserved c = left_next c.loop.invariant c.loop-test.true c.next-at.ensures
    (seek_on _ _ _ _ _ (omega (arith, c.loop-test.true)) (sym c.has.ensures ∙ c.if-has.false))

pub returns : goal.returns
returns c = find_none _ _ _ _ c.loop.invariant c.args.self.tiling c.loop-test.false
