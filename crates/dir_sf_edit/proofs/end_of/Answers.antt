use native.Mathlib.Omega.{arith}
use mathlib.Core.Path.{◌∙◌, ap, sym}
use Rattle.dir_sf.specs.Entry.{end_tag}
use Rattle.dir_sf.specs.Left.{left, bare}
use Rattle.dir_sf_edit.proofs.TagScans.{end_on, end_none}
use Rattle.dir_sf_edit.proofs.end_of.Goals as goal

pub loop-x-init : goal.loop-x-init
loop-x-init c =
    let e = c.args.entries.edition in
    let q = ap (λ i. end_tag e e.first (bare (left i))) c.into_iter-x-iterator.ensures.into_iter_gives in
    let s = c.args.entries.sane in
    (tt, tt, sym q, omega (arith, s.first_after, s.header_most))

pub loop-x-preserved : goal.loop-x-preserved
loop-x-preserved c =
    let e = c.args.entries.edition in
    let i = c.loop-x.invariant in
    let g = c.in-Some.ensures.steps.0 in
    let x = c.in-Some.x in
    (tt, tt, i.2 ∙ ap (λ xs. end_tag e c.loop-x.low (bare xs)) g ∙ end_on _ _ _ _ _ _ _ c.entry_size.ensures.0, omega (arith, c.entry_size.ensures, x.tagged))

pub returns : goal.returns
returns c =
    let e = c.args.entries.edition in
    let i = c.loop-x.invariant in
    let g = c.in-None.ensures.steps.0.0 in
    (sym (i.2 ∙ ap (λ xs. end_tag e c.loop-x.low (bare xs)) g ∙ end_none e c.loop-x.low), i.3)
