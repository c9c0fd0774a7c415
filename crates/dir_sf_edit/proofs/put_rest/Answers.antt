use borrow.Author.Rules.{rules}
use Rattle.dir_sf_edit.proofs.Puts.{rest_put}
use Rattle.dir_sf_edit.proofs.put_rest.Goals as goal

pub returns : goal.returns
returns c = (search (rules, rest_put), search rules)
