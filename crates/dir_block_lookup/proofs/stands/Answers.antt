use Prim.Native.Nat.{ℕ, ◌≤◌, ◌<◌}
use native.Mathlib.Omega.{arith}
use mathlib.Core.Bool.{true≢false}
use mathlib.Core.Path.{◌≡◌, sym, ◌∙◌, subst}
use borrow.Author.Tests.{eqb-true, eqb-false}
use Rattle.be.proofs.Bools.{by_cases}
use lib.Dec.{eqb}
use Rattle.dir_block_laws.specs.Pass.{Place}
use Rattle.dir_block_laws.proofs.RecordSteps.{place_start, place_within}
use Rattle.dir_block_laws.proofs.SlotSearch.{tiled}
use Rattle.dir_block_laws.proofs.WalkSteps.{place_is, beyond, too_early}
use Rattle.dir_block_lookup.proofs.stands.Goals as goal

pub loop-o-init : goal.loop-o-init
loop-o-init c = let q = c.requires in (place_start _ _, too_early _ q.sane.0 _ q.sane.1 _)

pub returns-then-end-o : goal.returns-then-end-o
returns-then-end-o c = let q = c.requires in
    let s = place_within _ c.args.b.now (tiled _ _ q.sane.1) _ c.loop-o.invariant.0 in
    (sym (beyond _ q.sane.0 _ q.sane.1 _ (omega (arith, q.end_value, s, c.if-end-o.true, c.loop-o-test.true))), λ w. absurd (true≢false (sym w)))

pub step_ready-o-requires : goal.step_ready-o-requires
step_ready-o-requires c = let q = c.requires in record { sane = q.sane; end_value = (q.end_value, c.loop-o.invariant.0) }

pub loop-o-smaller : goal.loop-o-smaller
loop-o-smaller c = let q = c.requires in
    omega (arith, c.loop-o-test.true, c.step_ready-o.ensures.on (omega (arith, q.end_value, c.if-end-o.false)))

pub loop-o-preserved : goal.loop-o-preserved
loop-o-preserved c = (c.step_ready-o.ensures.leads, λ h. c.step_ready-o.ensures.none_within _ c.loop-o-test.true h)

pub returns : goal.returns
returns c =
    let a = c.args in
    let q = c.requires in
    let l = c.loop-o in
    by_cases (eqb l.o a.p)
    (λ z.
    let s = subst (λ (x : ℕ). Place a.e a.b.now x) (eqb-true l.o a.p z) l.invariant.0 in
    (z ∙ sym (place_is _ q.sane.0 _ q.sane.1 _ s), λ _. s))
    (λ z. (z ∙ sym (l.invariant.1 (past c.loop-o-test.false (eqb-false l.o a.p z))), λ w. absurd (true≢false (sym w ∙ z))))
  where
    past : {p o : ℕ} → p ≤ o → (o ≡ p → ⊥) → p < o
    past h n = omega arith
