use borrow.Author.Rules.{rules}
use Rattle.dir_sf_edit.proofs.Changes.{remove_made, removed_made}
use Rattle.dir_sf_edit.proofs.remove.Goals as goal

pub returns : goal.returns
returns c = (search (rules, remove_made), search (rules, removed_made))
