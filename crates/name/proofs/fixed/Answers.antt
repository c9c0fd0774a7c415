use borrow.Author.Rules.{rules}
use Rattle.name.proofs.Legality.{fixed_dot, fixed_rest}
use Rattle.name.proofs.fixed.Goals as goal

pub returns-then-equal : goal.returns-then-equal
returns-then-equal c = search (rules, fixed_dot)

pub returns : goal.returns
returns c = search (rules, fixed_rest)
