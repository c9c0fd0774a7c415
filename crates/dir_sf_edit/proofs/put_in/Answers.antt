use borrow.Author.Rules.{rules}
use Rattle.dir_sf_edit.proofs.Changes.{insert_passes, insert_dir, insert_readable, insert_short, insert_few, insert_free, insert_room, put_in_is}
use Rattle.dir_sf_edit.proofs.put_in.Goals as goal

pub fork_long-n-requires : goal.fork_long-n-requires
fork_long-n-requires c = (search rules, search (rules, insert_dir))

pub used-requires : goal.used-requires
used-requires c = (search rules, search (rules, insert_passes))

pub grow-size-requires : goal.grow-size-requires
grow-size-requires c = (search rules, search (rules, insert_readable), search (rules, insert_short), search (rules, insert_few), search (rules, insert_free), search (rules, insert_room))

pub returns : goal.returns
returns c = search (rules, put_in_is)
