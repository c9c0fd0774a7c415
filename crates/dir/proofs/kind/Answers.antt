use borrow.Author.Rules.{rules}
use Rattle.dir.proofs.FileTypes.{kind_none, kind_some}
use Rattle.dir.proofs.kind.Goals as goal

pub returns-then-e-eq0 : goal.returns-then-e-eq0
returns-then-e-eq0 c = search (rules, kind_none)

pub returns : goal.returns
returns c = search (rules, kind_some)
