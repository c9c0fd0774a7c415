use native.Mathlib.Omega.{arith}
use Rattle.attr_sf.proofs.InodeTests.{located}
use Rattle.attr_sf.proofs.WalkSteps.{walked_at, walked_refused}
use Rattle.attr_sf.proofs.walk_on.Goals as goal

pub returns-in_err-fork : goal.returns-in_err-fork
returns-in_err-fork c = walked_refused _ _ _ _ _ c.from_residual.ensures.1 c.in_err-fork.ensures

pub slice_bounds-accepted-count : goal.slice_bounds-accepted-count
slice_bounds-accepted-count c = (located _ _ c.in_ok-fork.ensures).0

pub slice_bounds-accepted-start : goal.slice_bounds-accepted-start
slice_bounds-accepted-start c = (located _ _ c.in_ok-fork.ensures).0

pub invariant_of-accepted : goal.invariant_of-accepted
invariant_of-accepted c = record { passes = (located _ _ c.in_ok-fork.ensures).1.0 }

pub step-requires : goal.step-requires
step-requires c = omega (arith, (located _ _ c.in_ok-fork.ensures).1.1)

pub returns : goal.returns
returns c = walked_at _ _ _ c.in_ok-fork.ensures c.step.ensures
