use borrow.Author.Rules.{rules}
use Rattle.dir_sf_edit.proofs.Insertions.{grown_wide, grown_narrow, grown_first}
use Rattle.dir_sf_edit.proofs.grown.Goals as goal

pub returns-then-wides-ne0 : goal.returns-then-wides-ne0
returns-then-wides-ne0 c = search (rules, grown_wide)

pub returns-then-after-eq0 : goal.returns-then-after-eq0
returns-then-after-eq0 c = search (rules, grown_narrow)

pub returns : goal.returns
returns c = search (rules, grown_first)
