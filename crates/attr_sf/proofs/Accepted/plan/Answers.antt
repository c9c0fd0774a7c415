use native.Mathlib.Omega.{arith}
use mathlib.Core.Path.{sym, ◌∙◌}
use Rattle.attr_sf.proofs.ForkTests.{long}
use Rattle.attr_sf.proofs.Seeking.{at_long, at_count, plan_found, plan_not}
use Rattle.attr_sf.proofs.ChangedFork.{planned}
use Rattle.attr_sf.proofs.Accepted.plan.Goals as goal

pub be16-end-requires : goal.be16-end-requires
be16-end-requires c = omega (arith, long _ c.args.self.passes)

pub be8-count-requires : goal.be8-count-requires
be8-count-requires c = omega (arith, long _ c.args.self.passes)

pub size-requires : goal.size-requires
size-requires c = at_long _ _ _ (sym c.in-Some.is ∙ c.find.ensures) c.args.self.passes

pub overflow_sub-result : goal.overflow_sub-result
overflow_sub-result c = at_count _ _ _ (sym c.in-Some.is ∙ c.find.ensures) c.args.self.passes c.be8-count.ensures.0

pub returns-in-Some : goal.returns-in-Some
returns-in-Some c = planned _ _ _ c.args.self.passes
    (plan_found _ _ _ c.be16-end.ensures.0 c.be8-count.ensures.0 (sym c.in-Some.is ∙ c.find.ensures) c.size.ensures.0)

pub returns-in-None : goal.returns-in-None
returns-in-None c = planned _ _ _ c.args.self.passes
    (plan_not _ _ _ c.be16-end.ensures.0 c.be8-count.ensures.0 c.args.self.passes (sym c.in-None.is ∙ c.find.ensures))
