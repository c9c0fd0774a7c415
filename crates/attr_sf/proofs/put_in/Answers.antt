use native.Mathlib.Omega.{arith}
use Rattle.attr_sf.proofs.InodeTests.{located, asked_tested, asked_small, if_passed}
use Rattle.attr_sf.proofs.ChangedInode.{set_at, set_refused}
use Rattle.attr_sf.proofs.put_in.Goals as goal

pub returns-in_err-fork : goal.returns-in_err-fork
returns-in_err-fork c = set_refused _ _ _ _ _ _ _ c.from_residual.ensures.1 c.in_err-fork.ensures

pub slice_bounds-set_in-count : goal.slice_bounds-set_in-count
slice_bounds-set_in-count c = (located _ _ (asked_tested _ _ _ _ c.in_ok-fork.ensures)).0

pub slice_bounds-set_in-start : goal.slice_bounds-set_in-start
slice_bounds-set_in-start c = (located _ _ (asked_tested _ _ _ _ c.in_ok-fork.ensures)).0

pub set_in-requires : goal.set_in-requires
set_in-requires c = let z = located _ _ (asked_tested _ _ _ _ c.in_ok-fork.ensures) in let k = asked_small _ _ _ _ (if_passed _ _ _ c.in_ok-fork.ensures).0 in ((z.1.0, omega (arith, z.1.1)), k)

pub returns : goal.returns
returns c = set_at _ _ _ _ _ c.in_ok-fork.ensures
    (located _ _ (asked_tested _ _ _ _ c.in_ok-fork.ensures)).0 c.set_in.auto.f c.set_in.ensures
