use borrow.Author.Rules.{rules}
use Rattle.dir_sf.proofs.Tests.{storable_is}
use Rattle.dir_sf.proofs.storable.Goals as goal

pub returns : goal.returns
returns c = search (rules, storable_is)
