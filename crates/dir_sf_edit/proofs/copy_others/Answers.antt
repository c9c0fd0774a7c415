use borrow.Author.Rules.{rules}
use Rattle.dir_sf.proofs.Listed.{others_in, others_enough, others_room, others_bytes, others_end}
use Rattle.dir_sf_edit.proofs.copy_others.Goals as goal

pub overflow_sub-others : goal.overflow_sub-others
overflow_sub-others c = search (rules, others_in)

pub invariant_of-others : goal.invariant_of-others
invariant_of-others c = record { sane = c.requires.0; lie = search (rules, others_enough) }

pub copy_entries-requires : goal.copy_entries-requires
copy_entries-requires c = search (rules, others_room)

pub returns : goal.returns
returns c = (search (rules, others_bytes), search (rules, others_end))
