use mathlib.Core.Path.{sym, ◌∙◌}
use Rattle.attr_sf.proofs.InodeTests.{asked_not, asked_at, asked_refused, if_not}
use Rattle.attr_sf.proofs.asked.Goals as goal

pub returns-in_err-fork : goal.returns-in_err-fork
returns-in_err-fork c = if_not _ _ _ _ c.from_residual.ensures.1 (asked_refused _ _ _ _ _ c.in_err-fork.ensures)

pub returns-then-not-legal : goal.returns-then-not-legal
returns-then-not-legal c = asked_not _ _ _ _ c.in_ok-fork.ensures (sym c.legal.ensures ∙ c.if-not-legal.true)

pub returns : goal.returns
returns c = asked_at _ _ _ _ c.in_ok-fork.ensures (sym c.legal.ensures ∙ c.if-not-legal.false)
