use Rattle.refusal.proofs.Passed.{code_is}
use Rattle.dir_sf.proofs.Tested.{lent_readable}
use Rattle.dir_sf_edit.proofs.Changes.{remove_refused, remove_passed}
use Rattle.dir_sf_edit.proofs.check_remove.Goals as goal

pub returns-in_err-check : goal.returns-in_err-check
returns-in_err-check c = code_is _ _ c.from_residual.ensures.1 (remove_refused _ _ _ _ _ c.in_err-check.ensures)

pub check_removal-requires : goal.check_removal-requires
check_removal-requires c = (c.requires, lent_readable _ c.requires _ _ _ c.in_ok-check.ensures c.used.ensures.0)

pub returns : goal.returns
returns c = remove_passed _ c.requires _ _ _ _ _ c.in_ok-check.ensures c.used.ensures.0 c.check_removal.ensures
