use Rattle.attr_sf.proofs.InodeTests.{inode_inside, tested_code, tested_at, tested_refused, if_not}
use Rattle.attr_sf.proofs.tested.Goals as goal

pub returns-in_err-fork : goal.returns-in_err-fork
returns-in_err-fork c = if_not _ _ _ _ c.from_residual.ensures.1 (tested_refused _ _ _ c.in_err-fork.ensures)

pub slice_bounds-check_fork-count : goal.slice_bounds-check_fork-count
slice_bounds-check_fork-count c = inode_inside _ _ c.in_ok-fork.ensures

pub slice_bounds-check_fork-start : goal.slice_bounds-check_fork-start
slice_bounds-check_fork-start c = inode_inside _ _ c.in_ok-fork.ensures

pub returns-in_err-check_fork : goal.returns-in_err-check_fork
returns-in_err-check_fork c = if_not _ _ _ _ c.from_residual-in_err-check_fork.ensures.1 (tested_code _ _ c.in_ok-fork.ensures c.in_err-check_fork.ensures)

pub returns : goal.returns
returns c = tested_at _ _ c.in_ok-fork.ensures c.in_ok-check_fork.ensures
