use borrow.Author.Rules.{rules}
use Rattle.dir_sf_edit.proofs.Puts.{entry_put}
use Rattle.dir_sf_edit.proofs.put_entry.Goals as goal

pub returns : goal.returns
returns c = (search (rules, entry_put), search rules)
