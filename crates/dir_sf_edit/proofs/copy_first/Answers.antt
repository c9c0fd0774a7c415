use borrow.Author.Rules.{rules}
use Rattle.dir_sf.proofs.Listed.{first_enough, first_room, first_bytes, first_end}
use Rattle.dir_sf_edit.proofs.copy_first.Goals as goal

pub invariant_of-first : goal.invariant_of-first
invariant_of-first c = record { sane = c.requires.0; lie = search (rules, first_enough) }

pub copy_entries-requires : goal.copy_entries-requires
copy_entries-requires c = search (rules, first_room)

pub returns : goal.returns
returns c = (search (rules, first_bytes), search (rules, first_end))
