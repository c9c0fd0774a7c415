use mathlib.Core.Path.{sym, ◌∙◌}
use Rattle.dir_block_edit.proofs.Refused.{by_request, by_fixed, by_rest}
use Rattle.dir_block_edit.proofs.request.Goals as goal

pub returns-then-not-legal : goal.returns-then-not-legal
returns-then-not-legal c = sym (by_request 0 _ _ c.if-not-legal.true)

pub returns-then-fixed : goal.returns-then-fixed
returns-then-fixed c = sym (by_fixed 0 _ _ c.if-not-legal.false (sym c.fixed.ensures ∙ c.if-fixed.true))

pub returns : goal.returns
returns c = sym (by_rest 0 _ _ c.if-not-legal.false (sym c.fixed.ensures ∙ c.if-fixed.false))
