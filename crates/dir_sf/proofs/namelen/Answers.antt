use borrow.Author.Rules.{rules}
use Rattle.dir_sf.proofs.Leaves.{one_starts, one_ends}
use Rattle.dir_sf.proofs.namelen.Goals as goal

pub be8-requires : goal.be8-requires
be8-requires c = search (rules, one_starts)

pub returns : goal.returns
returns c = (search rules, search rules, search (rules, one_ends))
