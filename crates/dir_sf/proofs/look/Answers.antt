use borrow.Author.Rules.{rules}
use Rattle.dir_sf.proofs.Looks.{look_asked, look_fixed, look_parent, look_absent, look_found}
use Rattle.dir_sf.proofs.look.Goals as goal

pub returns-then-not-legal : goal.returns-then-not-legal
returns-then-not-legal c = search (rules, look_asked)

pub returns-then-equal : goal.returns-then-equal
returns-then-equal c = search (rules, look_fixed)

pub returns-then-equal-2 : goal.returns-then-equal-2
returns-then-equal-2 c = search (rules, look_parent)

pub returns-in-Some : goal.returns-in-Some
returns-in-Some c = search (rules, look_found)

pub returns-in-None : goal.returns-in-None
returns-in-None c = search (rules, look_absent)
