use borrow.Author.Rules.{rules}
use Rattle.dir_sf.proofs.Leaves.{room_narrow, room_broad}
use Rattle.dir_sf_edit.proofs.Puts.{put_narrow, put_broad}
use Rattle.dir_sf_edit.proofs.put_number.Goals as goal

pub put32-requires : goal.put32-requires
put32-requires c = search (rules, room_narrow)

pub returns-then-wides-eq0 : goal.returns-then-wides-eq0
returns-then-wides-eq0 c = search (rules, put_narrow)

pub put64-requires : goal.put64-requires
put64-requires c = search (rules, room_broad)

pub returns : goal.returns
returns c = search (rules, put_broad)
