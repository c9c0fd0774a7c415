use Rattle.std.proofs.Common.{sym, arith, length-take-le}
use Rattle.edit_run.proofs.try_insert.Goals as goal

pub slice_bounds-insert-end : goal.slice_bounds-insert-end
slice_bounds-insert-end c = sym (length-take-le _ _ (omega arith))
