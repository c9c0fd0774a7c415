use mathlib.Core.Path.{◌∙◌, refl}
use Rattle.refusal.proofs.Passed.{numbered_is}
use Rattle.dir_sf.proofs.Tested.{lent_readable}
use Rattle.dir_sf.proofs.Walks.{step_refused, step_stepped}
use Rattle.dir_sf.proofs.walk_from.Goals as goal

pub returns-in_err-check : goal.returns-in_err-check
returns-in_err-check c = numbered_is _ _ c.from_residual.ensures.1 refl ∙ step_refused _ _ _ _ _ c.in_err-check.ensures

pub step_over-requires : goal.step_over-requires
step_over-requires c = (c.requires, lent_readable _ c.requires _ _ _ c.in_ok-check.ensures c.used.ensures.0, c.used.ensures.1)

pub returns : goal.returns
returns c = step_stepped _ c.requires _ _ _ _ _ c.in_ok-check.ensures c.used.ensures.0 c.step_over.ensures
