use native.Mathlib.Omega.{arith}
use Rattle.attr_sf.proofs.ForkTests.{long}
use Rattle.attr_sf.proofs.ChangedFork.{remove_not, remove_done}
use Rattle.attr_sf.proofs.remove_in.Goals as goal

pub returns-then-end-at : goal.returns-then-end-at
returns-then-end-at c = remove_not _ _ _ c.requires c.plan-at.ensures.0 c.if-end-at.true

pub head-requires : goal.head-requires
head-requires c = omega (arith, long _ c.requires, c.close.auto.f)

pub returns : goal.returns
returns c = remove_done _ _ _ c.requires c.plan-at.ensures.0 c.if-end-at.false c.close.ensures c.head.ensures
