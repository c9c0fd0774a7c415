use borrow.Author.Rules.{rules}
use Rattle.dir_sf_edit.proofs.Changes.{remove_passes, remove_dir, remove_readable, remove_there, remove_room, taken_out}
use Rattle.dir_sf_edit.proofs.take_out.Goals as goal

pub fork_long-n-requires : goal.fork_long-n-requires
fork_long-n-requires c = (search rules, search (rules, remove_dir))

pub used-requires : goal.used-requires
used-requires c = (search rules, search (rules, remove_passes))

pub shrink-size-requires : goal.shrink-size-requires
shrink-size-requires c = (search rules, search (rules, remove_readable), search (rules, remove_there), search (rules, remove_room))

pub returns : goal.returns
returns c = search (rules, taken_out)
