use native.Mathlib.Omega.{arith}
use mathlib.Core.Path.{sym, ◌∙◌}
use Rattle.attr_sf.proofs.Seeking.{at_long, found_at, found_not}
use Rattle.attr_sf.proofs.Accepted.lookup.Goals as goal

pub be8-requires : goal.be8-requires
be8-requires c = omega (arith, at_long _ _ _ (sym c.in-Some.is ∙ c.find.ensures) c.args.self.passes)

pub be8-len-requires : goal.be8-len-requires
be8-len-requires c = omega (arith, at_long _ _ _ (sym c.in-Some.is ∙ c.find.ensures) c.args.self.passes)

pub overflow_add-start : goal.overflow_add-start
overflow_add-start c = omega (arith, at_long _ _ _ (sym c.in-Some.is ∙ c.find.ensures) c.args.self.passes)

pub overflow_add-start-in-Some : goal.overflow_add-start-in-Some
overflow_add-start-in-Some c = omega (arith, at_long _ _ _ (sym c.in-Some.is ∙ c.find.ensures) c.args.self.passes, c.be8.ensures)

pub overflow_add-start-in-Some-2 : goal.overflow_add-start-in-Some-2
overflow_add-start-in-Some-2 c = omega (arith, at_long _ _ _ (sym c.in-Some.is ∙ c.find.ensures) c.args.self.passes, c.be8.ensures, c.requires)

pub overflow_add-at : goal.overflow_add-at
overflow_add-at c = omega (arith, at_long _ _ _ (sym c.in-Some.is ∙ c.find.ensures) c.args.self.passes)

pub returns-in-Some : goal.returns-in-Some
returns-in-Some c = rw (c.be8.ensures.0, c.be8-len.ensures.0) (found_at _ _ _ (sym c.in-Some.is ∙ c.find.ensures) _)

pub returns-in-None : goal.returns-in-None
returns-in-None c = found_not _ _ _ _ (sym c.in-None.is ∙ c.find.ensures)
