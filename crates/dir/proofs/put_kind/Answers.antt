use borrow.Author.Rules.{rules}
use Rattle.dir.proofs.FileTypes.{put_kind_none, put_kind_some}
use Rattle.dir.proofs.put_kind.Goals as goal

pub returns-then-e-eq0 : goal.returns-then-e-eq0
returns-then-e-eq0 c = search (rules, put_kind_none)

pub returns : goal.returns
returns c = search (rules, put_kind_some)
