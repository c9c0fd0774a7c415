use borrow.Author.Rules.{rules}
use Rattle.dir_sf_edit.proofs.Lays.{header_put}
use Rattle.dir_sf_edit.proofs.put_header.Goals as goal

pub returns : goal.returns
returns c = (search (rules, header_put), search rules)
