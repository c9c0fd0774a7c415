use mathlib.Core.Path.{◌∙◌, refl}
use Rattle.refusal.proofs.Passed.{numbered_is}
use Rattle.dir_sf.proofs.Tested.{lookup_refused, lookup_looked, lent_readable}
use Rattle.dir_sf.proofs.look_up.Goals as goal

pub returns-in_err-check : goal.returns-in_err-check
returns-in_err-check c = numbered_is _ _ c.from_residual.ensures.1 refl ∙ lookup_refused _ _ _ _ _ c.in_err-check.ensures

pub look-requires : goal.look-requires
look-requires c = (c.requires, lent_readable _ c.requires _ _ _ c.in_ok-check.ensures c.used.ensures.0)

pub returns : goal.returns
returns c = lookup_looked _ c.requires _ _ _ _ _ c.in_ok-check.ensures c.used.ensures.0 c.look.ensures
