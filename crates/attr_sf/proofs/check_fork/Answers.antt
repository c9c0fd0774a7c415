use mathlib.Core.Path.{sym, ◌∙◌}
use borrow.Author.Rules.{rules}
use Rattle.refusal.proofs.Passed.{number_ne, code_is}
use Rattle.attr_sf.proofs.ForkTests.{span_short, span_out, not_tiled, not_own, not_once, all_passed}
use Rattle.attr_sf.proofs.check_fork.Goals as goal

pub returns-then-f-lt-HEADER : goal.returns-then-f-lt-HEADER
returns-then-f-lt-HEADER c = search (rules, span_short)

pub returns-then-end-f : goal.returns-then-end-f
returns-then-end-f c = span_out _ c.be16-end.ensures.0 (search rules) c.if-end-f.true

pub returns-then-not-tiles : goal.returns-then-not-tiles
returns-then-not-tiles c = not_tiled _ c.be16-end.ensures.0 (search rules) (search rules) c.be8-count.ensures.0 (search rules) (sym c.tiles.ensures ∙ c.if-not-tiles.true)

pub returns-in_err-check : goal.returns-in_err-check
returns-in_err-check c =
    code_is _ _ c.from_residual.ensures.1
    (not_own _ c.be16-end.ensures.0 (search rules) (search rules) c.be8-count.ensures.0 (search rules) (sym c.tiles.ensures ∙ c.if-not-tiles.false) c.in_err-check.ensures (number_ne _))

pub returns-then-not-once : goal.returns-then-not-once
returns-then-not-once c = not_once _ c.be16-end.ensures.0 (search rules) (search rules) c.be8-count.ensures.0 (search rules) (sym c.tiles.ensures ∙ c.if-not-tiles.false) c.in_ok-check.ensures (sym c.once.ensures ∙ c.if-not-once.true)

pub returns : goal.returns
returns c = all_passed _ c.be16-end.ensures.0 (search rules) (search rules) c.be8-count.ensures.0 (search rules) (sym c.tiles.ensures ∙ c.if-not-tiles.false) c.in_ok-check.ensures (sym c.once.ensures ∙ c.if-not-once.false)
