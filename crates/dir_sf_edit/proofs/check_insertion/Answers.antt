use borrow.Author.Rules.{rules}
use mathlib.Core.Path.{◌∙◌}
use Rattle.dir_sf.proofs.Looks.{hit_some}
use Rattle.dir_sf_edit.proofs.Insertions.{insert_name, insert_asked, insert_fixed, insert_exists, insert_no_tag, insert_no_fit, insert_done, short_name}
use Rattle.dir_sf_edit.proofs.check_insertion.Goals as goal

pub returns-then-not-legal : goal.returns-then-not-legal
returns-then-not-legal c = search (rules, insert_name)

pub returns-then-not-target_legal : goal.returns-then-not-target_legal
returns-then-not-target_legal c = search (rules, insert_asked)

pub returns-then-fixed : goal.returns-then-fixed
returns-then-fixed c = search (rules, insert_fixed)

pub returns-then-is_some : goal.returns-then-is_some
returns-then-is_some c = let h = c.is_some.ensures ∙ hit_some _ _ _ _ c.seek_name.ensures.found in search (rules, insert_exists)

pub tag_of-requires : goal.tag_of-requires
tag_of-requires c = (search rules, search rules, search (rules, short_name))

pub returns-in_default : goal.returns-in_default
returns-in_default c = let h = c.is_some.ensures ∙ hit_some _ _ _ _ c.seek_name.ensures.found in search (rules, insert_no_tag)

pub grown-requires : goal.grown-requires
grown-requires c = (search rules, search rules, search rules, search (rules, short_name), search rules)

pub returns-then-fork-grown : goal.returns-then-fork-grown
returns-then-fork-grown c =
    let h = c.is_some.ensures ∙ hit_some _ _ _ _ c.seek_name.ensures.found in let f = c.in-Some.is in search (rules, insert_no_fit)

pub returns : goal.returns
returns c =
    let h = c.is_some.ensures ∙ hit_some _ _ _ _ c.seek_name.ensures.found in let f = c.in-Some.is in search (rules, insert_done)
