use mathlib.Core.Path.{◌∙◌}
use Rattle.name.proofs.Legality.{legal_none, legal_long, legal_rest}
use borrow.Author.Rules.{rules}
use Rattle.name.proofs.legal.Goals as goal

pub returns-then-s-lt1 : goal.returns-then-s-lt1
returns-then-s-lt1 c = legal_none _ _ c.if-s-lt1.true

pub returns-then-s-gt255 : goal.returns-then-s-gt255
returns-then-s-gt255 c = legal_long _ _ c.if-s-gt255.true

pub returns : goal.returns
returns c = c.clear_of.ensures ∙ legal_rest _ _ (search rules) (search rules)
