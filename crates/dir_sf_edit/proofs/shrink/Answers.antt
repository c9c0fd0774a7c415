use borrow.Author.Rules.{rules}
use mathlib.Core.Path.{◌∙◌, ap}
use Rattle.dir_sf.specs.declared.Hit.{Hit}
use Rattle.dir_sf.proofs.Looks.{hit_some, hit_is, hit_place, hit_index}
use Rattle.dir_sf_edit.proofs.Refusals.{one_within, shrink_room, shrink_bytes, shrink_size}
use Rattle.dir_sf_edit.proofs.shrink.Goals as goal

pub unwrap-h-requires : goal.unwrap-h-requires
unwrap-h-requires c = hit_some _ _ _ _ c.seek_name.ensures.found ∙ c.requires.2

pub wides_without-after-requires : goal.wides_without-after-requires
wides_without-after-requires c =
    let t = ap (λ (h : Hit). h.target) (hit_is _ _ _ _ c.seek_name.ensures.found _ c.unwrap-h.ensures) in
    (search rules, one_within _ _ _ c.requires.1 c.requires.2 _ t)

pub lay_without-requires : goal.lay_without-requires
lay_without-requires c =
    let h = hit_is _ _ _ _ c.seek_name.ensures.found _ c.unwrap-h.ensures in
    let t = ap (λ (h : Hit). h.target) h in
    let i = ap (λ (h : Hit). h.index) h in
    (search rules, search rules, hit_index _ _ _ _ c.seek_name.ensures.found _ c.unwrap-h.ensures, hit_place _ _ _ _ c.seek_name.ensures.found _ c.unwrap-h.ensures, search rules, search (rules, shrink_room))

pub returns : goal.returns
returns c =
    let h = hit_is _ _ _ _ c.seek_name.ensures.found _ c.unwrap-h.ensures in
    let t = ap (λ (h : Hit). h.target) h in
    let i = ap (λ (h : Hit). h.index) h in
    (search (rules, shrink_bytes), search (rules, shrink_size))
