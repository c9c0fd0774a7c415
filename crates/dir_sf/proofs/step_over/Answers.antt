use native.Mathlib.Omega.{arith}
use Prim.Native.Nat.{ℕ}
use mathlib.Core.Path.{◌∙◌, ap}
use Rattle.dir_sf.specs.Entry.{width_of}
use Rattle.dir_sf.specs.Inner.{walked_over}
use Rattle.dir_sf.proofs.Walks.{walk_start, walk_on, walk_hit, walk_end, walk_off, lies_at}
use Rattle.dir_sf.proofs.step_over.Goals as goal

pub loop-x-init : goal.loop-x-init
loop-x-init c =
    let f = c.of-entries.ensures in
    (f.0, f.2.0, walk_start _ _ _ _ _ _ f.2.1 f.2.2 f.2.3)

pub overflow_add-live : goal.overflow_add-live
overflow_add-live c =
    let s = c.loop-x.entries in
    omega (arith, lies_at _ _ _ _ _ _ _ c.loop-x.invariant.1 s.lie c.in-Some.ensures.steps.2.0.1, c.requires.2)

pub overflow_add-live-then-place-x : goal.overflow_add-live-then-place-x
overflow_add-live-then-place-x c =
    let s = c.loop-x.entries in
    omega (arith, lies_at _ _ _ _ _ _ _ c.loop-x.invariant.1 s.lie c.in-Some.ensures.steps.2.0.1, c.requires.2, c.requires.0.literal_most)

pub returns-then-place-x : goal.returns-then-place-x
returns-then-place-x c =
    let i = c.loop-x.invariant in
    let g = c.in-Some.ensures.steps.2 in
    walk_hit _ _ _ _ _ _ _ _ _ _ _ i.0 i.1 g.0.0 g.0.1 g.0.2 _ _ _ g.0.3 c.if-place-x.true ∙ i.2

pub loop-x-preserved : goal.loop-x-preserved
loop-x-preserved c =
    let i = c.loop-x.invariant in
    let g = c.in-Some.ensures.steps in
    let t = c.next.new.self in (
      g.1 ∙ i.0,
      g.2.1 ∙ i.1,
      ap (λ (w : ℕ). walked_over c.args.e (width_of w) c.args.u.now t.left t.at c.args.place) g.2.2
          ∙ walk_on _ _ _ _ _ _ _ _ _ _ _ i.0 i.1 g.2.0.0 g.2.0.1 g.2.0.2 c.if-place-x.false ∙ i.2,
    )

pub returns-then-place-entries : goal.returns-then-place-entries
returns-then-place-entries c =
    let g = c.in_default.ensures.steps.2.0 in
    walk_end _ _ _ _ _ _ _ g.0 g.1 c.if-place-entries.true ∙ c.loop-x.invariant.2

pub returns : goal.returns
returns c =
    let g = c.in_default.ensures.steps.2.0 in
    walk_off _ _ _ _ _ _ _ g.0 g.1 c.if-place-entries.false ∙ c.loop-x.invariant.2
