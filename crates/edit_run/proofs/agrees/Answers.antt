use Rattle.std.proofs.Common.{sym, arith, length-take-le}
use Rattle.edit_run.proofs.agrees.Goals as goal

pub slice_bounds-lookup-end : goal.slice_bounds-lookup-end
slice_bounds-lookup-end c = sym (length-take-le _ _ (omega arith))
