use borrow.Author.Rules.{rules}
use Rattle.dir_sf.proofs.Leaves.{room_narrow, room_broad, field_narrow, field_broad}
use Rattle.dir_sf.proofs.number.Goals as goal

pub be32-requires : goal.be32-requires
be32-requires c = search (rules, room_narrow)

pub returns-then-wides-eq0 : goal.returns-then-wides-eq0
returns-then-wides-eq0 c = search (rules, field_narrow)

pub be64-requires : goal.be64-requires
be64-requires c = search (rules, room_broad)

pub returns : goal.returns
returns c = search (rules, field_broad)
