use borrow.Author.Rules.{rules}
use Rattle.dir_sf_edit.proofs.Changes.{insert_made, inserted_made}
use Rattle.dir_sf_edit.proofs.insert.Goals as goal

pub returns : goal.returns
returns c = (search (rules, insert_made), search (rules, inserted_made))
