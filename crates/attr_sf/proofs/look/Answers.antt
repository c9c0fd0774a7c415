use native.Mathlib.Omega.{arith}
use Rattle.attr_sf.proofs.InodeTests.{located, asked_tested}
use Rattle.attr_sf.proofs.LookupLaws.{looked_at, looked_refused}
use Rattle.attr_sf.proofs.look.Goals as goal

pub returns-in_err-fork : goal.returns-in_err-fork
returns-in_err-fork c = looked_refused _ _ _ _ _ _ c.from_residual.ensures.1 c.in_err-fork.ensures

pub slice_bounds-accepted-count : goal.slice_bounds-accepted-count
slice_bounds-accepted-count c = (located _ _ (asked_tested _ _ _ _ c.in_ok-fork.ensures)).0

pub slice_bounds-accepted-start : goal.slice_bounds-accepted-start
slice_bounds-accepted-start c = (located _ _ (asked_tested _ _ _ _ c.in_ok-fork.ensures)).0

pub invariant_of-accepted : goal.invariant_of-accepted
invariant_of-accepted c = record { passes = (located _ _ (asked_tested _ _ _ _ c.in_ok-fork.ensures)).1.0 }

pub lookup-requires : goal.lookup-requires
lookup-requires c = omega (arith, (located _ _ (asked_tested _ _ _ _ c.in_ok-fork.ensures)).1.1)

pub returns : goal.returns
returns c = looked_at _ _ _ _ c.in_ok-fork.ensures c.lookup.ensures
