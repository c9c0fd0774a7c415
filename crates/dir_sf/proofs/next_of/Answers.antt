use borrow.Author.Rules.{rules}
use Rattle.dir_sf.proofs.Listed.{place_one, place_next}
use Rattle.dir_sf.proofs.next_of.Goals as goal

pub namelen-n-requires : goal.namelen-n-requires
namelen-n-requires c = search (rules, place_one)

pub returns : goal.returns
returns c = search (rules, place_next)
