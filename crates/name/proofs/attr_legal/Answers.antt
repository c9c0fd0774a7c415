use mathlib.Core.Path.{◌∙◌}
use Rattle.name.proofs.Legality.{attr_none, attr_long, attr_rest}
use borrow.Author.Rules.{rules}
use Rattle.name.proofs.attr_legal.Goals as goal

pub returns-then-s-lt1 : goal.returns-then-s-lt1
returns-then-s-lt1 c = attr_none _ c.if-s-lt1.true

pub returns-then-s-gt255 : goal.returns-then-s-gt255
returns-then-s-gt255 c = attr_long _ c.if-s-gt255.true

pub returns : goal.returns
returns c = c.clear_of.ensures ∙ attr_rest _ (search rules) (search rules)
