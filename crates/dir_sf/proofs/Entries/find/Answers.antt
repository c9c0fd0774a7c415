use native.Mathlib.Omega.{arith}
use mathlib.Core.Path.{◌∙◌, ap, sym, refl}
use mathlib.Core.Logic.{inl}
use lib.ListN.{length}
use Rattle.dir_sf.specs.Entry.{width_of}
use Rattle.dir_sf.specs.Left.{left, first_hit}
use Rattle.dir_sf.proofs.Turn.{turn_length, hit_first, hit_later, hit_never}
use Rattle.dir_sf.proofs.Entries.find.Goals as goal

pub loop-index-init : goal.loop-index-init
loop-index-init c =
    let s = c.args.self in
    let g = c.into_iter-index-iterator.ensures.into_iter_gives in
    let n = ap (λ i. i.count) g ∙ c.enumerate-index-items.ensures.count in
    let q = ap (λ i. left i.iter) g ∙ ap left c.enumerate-index-items.ensures.source in
    let l = turn_length s.edition (width_of s.wides) s.bytes.now s.left s.at in
    ((tt, tt, inl (omega (arith, n, ap length q, l, c.ranges.self))), tt, omega (arith, n, ap length q, l), rw (n, q) refl)

pub returns-then-matches : goal.returns-then-matches
returns-then-matches c =
    let g = c.in-Some.ensures.steps in
    let n = g.1 in
    rw n (hit_first _ _ _ _ _ _ c.matches.ensures c.if-matches.true)
    ∙ sym (c.loop-index.invariant.3 ∙ ap (first_hit c.args.self.edition c.args.name.now c.loop-index.index-iterator.count) g.0.0)

pub loop-index-preserved : goal.loop-index-preserved
loop-index-preserved c =
    let g = c.in-Some.ensures.steps in
    let i = c.loop-index.invariant in
    let l = ap length g.0.0 in (
      (tt, tt, inl (omega (arith, l, g.2, i.2, c.ranges.self))),
      tt,
      omega (arith, l, g.2, i.2),
      i.3 ∙ ap (first_hit c.args.self.edition c.args.name.now c.loop-index.index-iterator.count) g.0.0
          ∙ hit_later _ _ _ _ _ _ c.matches.ensures c.if-matches.false
          ∙ ap (λ n. first_hit c.args.self.edition c.args.name.now n (left c.next.new.self.iter)) (sym g.2),
    )

pub returns : goal.returns
returns c = hit_never _ _ _ _ c.in-None.ensures.steps.0.0.0 ∙ sym c.loop-index.invariant.3
