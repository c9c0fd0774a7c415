use native.Mathlib.Omega.{arith}
use borrow.Author.Rules.{rules}
use Rattle.attr_sf.proofs.ForkTests.{long}
use Rattle.attr_sf.proofs.ChangedFork.{set_value, set_count, set_total_over, set_done}
use Rattle.attr_sf.proofs.set_in.Goals as goal

pub returns-then-value-gt255 : goal.returns-then-value-gt255
returns-then-value-gt255 c = set_value _ _ _ c.requires.0.0 c.plan-at.ensures.0 _ (search rules)

pub returns-then-kept-gt254 : goal.returns-then-kept-gt254
returns-then-kept-gt254 c = set_count _ _ _ c.requires.0.0 c.plan-at.ensures.0 _ (search rules)

pub returns-then-f-total : goal.returns-then-f-total
returns-then-f-total c = set_total_over _ _ _ c.requires.0.0 c.plan-at.ensures.0 _ c.if-f-total.true

pub head-requires : goal.head-requires
head-requires c = omega (arith, long _ c.requires.0.0, c.close.auto.f, c.write_entry.auto.f)

pub returns : goal.returns
returns c = set_done _ _ _ c.requires.0.0 c.plan-at.ensures.0 _ (search rules) (search rules) c.if-f-total.false c.close.ensures c.write_entry.ensures c.head.ensures
