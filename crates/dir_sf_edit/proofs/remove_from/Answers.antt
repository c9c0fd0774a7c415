use Rattle.refusal.proofs.Passed.{code_is}
use Rattle.dir_sf_edit.proofs.Changes.{remove_alone, remove_done}
use Rattle.dir_sf_edit.proofs.remove_from.Goals as goal

pub returns-in_err-check_remove : goal.returns-in_err-check_remove
returns-in_err-check_remove c = let n = c.in_err-check_remove.ensures in
    (code_is _ _ c.from_residual.ensures.1 n, remove_alone _ _ _ _ _ n)

pub returns : goal.returns
returns c = (c.in_ok-check_remove.ensures, remove_done _ _ _ _ _ c.in_ok-check_remove.ensures c.take_out.ensures)
