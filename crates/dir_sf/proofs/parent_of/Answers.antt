use borrow.Author.Rules.{rules}
use Rattle.dir_sf.proofs.Listed.{parent_in, parent_is}
use Rattle.dir_sf.proofs.parent_of.Goals as goal

pub number-requires : goal.number-requires
number-requires c = search (rules, parent_in)

pub returns : goal.returns
returns c = search (rules, parent_is)
