use native.Mathlib.Omega.{arith}
use mathlib.Core.Path.{◌∙◌, ap, sym}
use Rattle.dir_sf.specs.Change.{gap_tag}
use Rattle.dir_sf.specs.Left.{left, bare}
use Rattle.dir_sf_edit.proofs.TagScans.{gap_here, gap_on, gap_none}
use Rattle.dir_sf_edit.proofs.gap_of.Goals as goal

pub loop-x-init : goal.loop-x-init
loop-x-init c =
    let e = c.args.entries.edition in
    let q = ap (λ i. gap_tag e c.args.long e.first (bare (left i))) c.into_iter-x-iterator.ensures.into_iter_gives in
    let s = c.args.entries.sane in
    (tt, tt, sym q, omega (arith, s.first_after, s.header_most))

pub returns-then-low-long : goal.returns-then-low-long
returns-then-low-long c =
    let e = c.args.entries.edition in
    let g = c.in-Some.ensures.steps.0 in
    sym (c.loop-x.invariant.2 ∙ ap (λ xs. gap_tag e c.args.long c.loop-x.low (bare xs)) g ∙ gap_here _ _ _ _ _ c.if-low-long.true)

pub loop-x-preserved : goal.loop-x-preserved
loop-x-preserved c =
    let e = c.args.entries.edition in
    let i = c.loop-x.invariant in
    let g = c.in-Some.ensures.steps.0 in
    let x = c.in-Some.x in (
      tt,
      tt,
      i.2 ∙ ap (λ xs. gap_tag e c.args.long c.loop-x.low (bare xs)) g ∙ gap_on _ _ _ _ _ _ _ _ c.if-low-long.false c.entry_size.ensures.0,
      omega (arith, c.entry_size.ensures, x.tagged),
    )

pub returns : goal.returns
returns c =
    let e = c.args.entries.edition in
    let g = c.in-None.ensures.steps.0.0 in
    gap_none _ _ _ _ (ap bare g) ∙ sym c.loop-x.invariant.2
