use Rattle.std.proofs.Common.{sym, arith, length-take-le}
use Rattle.edit_run.proofs.try_remove.Goals as goal

pub slice_bounds-remove-end : goal.slice_bounds-remove-end
slice_bounds-remove-end c = sym (length-take-le _ _ (omega arith))
