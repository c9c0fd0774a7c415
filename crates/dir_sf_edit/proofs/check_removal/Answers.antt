use borrow.Author.Rules.{rules}
use mathlib.Core.Path.{sym, ◌∙◌}
use Rattle.dir_sf.proofs.Looks.{hit_some}
use Rattle.dir_sf_edit.proofs.Refusals.{remove_asked, remove_fixed, remove_absent, remove_done}
use Rattle.dir_sf_edit.proofs.check_removal.Goals as goal

pub returns-then-not-legal : goal.returns-then-not-legal
returns-then-not-legal c = search (rules, remove_asked)

pub returns-then-fixed : goal.returns-then-fixed
returns-then-fixed c = search (rules, remove_fixed)

pub returns-then-is_none : goal.returns-then-is_none
returns-then-is_none c = let h = sym (hit_some _ _ _ _ c.seek_name.ensures.found) ∙ c.is_none.ensures in search (rules, remove_absent)

pub returns : goal.returns
returns c = let h = sym (hit_some _ _ _ _ c.seek_name.ensures.found) ∙ c.is_none.ensures in search (rules, remove_done)
