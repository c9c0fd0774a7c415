use mathlib.Core.Path.{◌∙◌, ap, sym}
use Rattle.dir_sf.specs.Left.{bare}
use Rattle.dir_sf.specs.Fork.{once_ok}
use Rattle.dir_sf.proofs.Turn.{once_not, once_still, once_over}
use Rattle.dir_sf.proofs.Entries.once.Goals as goal

pub returns-then-holds : goal.returns-then-holds
returns-then-holds c =
    let i = c.loop-x.invariant in
    let g = c.in-Some.ensures.steps in
    once_not _ _ _ _ _ (g.1 ∙ i.0) c.holds.ensures c.if-holds.true
    ∙ sym (i.1 ∙ ap (λ xs. once_ok c.args.self.edition (bare xs)) g.0)

pub loop-x-preserved : goal.loop-x-preserved
loop-x-preserved c =
    let i = c.loop-x.invariant in
    let g = c.in-Some.ensures.steps in
    (g.1 ∙ i.0, i.1 ∙ ap (λ xs. once_ok c.args.self.edition (bare xs)) g.0 ∙ once_still _ _ _ _ _ (g.1 ∙ i.0) c.holds.ensures c.if-holds.false)

pub returns : goal.returns
returns c =
    let i = c.loop-x.invariant in
    sym (i.1 ∙ once_over _ _ c.in_default.ensures.steps.0.0)
