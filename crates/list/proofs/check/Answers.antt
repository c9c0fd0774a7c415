use native.Mathlib.Omega.{arith}
use mathlib.Core.Path.{◌∙◌}
use Rattle.list.proofs.WholeInput.{none_after, too_long}
use Rattle.list.proofs.check.Goals as goal

pub returns-then-more-eq0 : goal.returns-then-more-eq0
returns-then-more-eq0 c =
    let a = c.args in
    c.check.ensures ∙ none_after _ c.requires.0 a.b.now a.more.now (omega (arith, c.if-more-eq0.true))

pub returns : goal.returns
returns c =
    let a = c.args in
    let p = c.requires in
    too_long _ p.0 a.b.now a.more.now p.1 (λ z. omega (arith, z, c.if-more-eq0.false))
