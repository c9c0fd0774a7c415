use borrow.Author.Rules.{rules}
use mathlib.Core.Path.{◌∙◌, ap}
use Rattle.std.specs.Prelude.{is_some}
use Rattle.dir_sf_edit.proofs.Insertions.{rank_in, wides_small, grow_room, grow_bytes, grow_size}
use Rattle.dir_sf_edit.proofs.grow.Goals as goal

pub unwrap-tag-requires : goal.unwrap-tag-requires
unwrap-tag-requires c = ap is_some c.tag_of.ensures ∙ c.requires.4

pub lay_with-requires : goal.lay_with-requires
lay_with-requires c = let f = c.unwrap-tag.ensures in
    (search rules, search rules, search (rules, rank_in), search rules, search rules, search (rules, wides_small), search rules, search (rules, grow_room))

pub returns : goal.returns
returns c = let f = c.unwrap-tag.ensures in
    (search (rules, grow_bytes), search (rules, grow_size))
