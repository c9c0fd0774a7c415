use Rattle.attr_sf.proofs.InodeTests.{located, asked_tested}
use Rattle.attr_sf.proofs.ChangedInode.{remove_at, remove_refused}
use Rattle.attr_sf.proofs.take_out.Goals as goal

pub returns-in_err-fork : goal.returns-in_err-fork
returns-in_err-fork c = remove_refused _ _ _ _ _ _ c.from_residual.ensures.1 c.in_err-fork.ensures

pub slice_bounds-remove_in-count : goal.slice_bounds-remove_in-count
slice_bounds-remove_in-count c = (located _ _ (asked_tested _ _ _ _ c.in_ok-fork.ensures)).0

pub slice_bounds-remove_in-start : goal.slice_bounds-remove_in-start
slice_bounds-remove_in-start c = (located _ _ (asked_tested _ _ _ _ c.in_ok-fork.ensures)).0

pub remove_in-requires : goal.remove_in-requires
remove_in-requires c = (located _ _ (asked_tested _ _ _ _ c.in_ok-fork.ensures)).1.0

pub returns : goal.returns
returns c = remove_at _ _ _ _ c.in_ok-fork.ensures
    (located _ _ (asked_tested _ _ _ _ c.in_ok-fork.ensures)).0 c.remove_in.auto.f c.remove_in.ensures
