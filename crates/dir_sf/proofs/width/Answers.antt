use borrow.Author.Rules.{rules}
use Rattle.dir_sf.proofs.Leaves.{narrow, broad}
use Rattle.dir_sf.proofs.width.Goals as goal

pub returns-then-wides-eq0 : goal.returns-then-wides-eq0
returns-then-wides-eq0 c = (narrow _ c.if-wides-eq0.true, search rules)

pub returns : goal.returns
returns c = (broad _ c.if-wides-eq0.false, search rules)
