use mathlib.Core.List.{◌∷◌}
use Prim.Native.Nat.{ℕ, ◌≤◌, ◌+◌}
use native.Mathlib.Omega.{arith}
use mathlib.Core.Bool.{true≢false}
use mathlib.Core.Path.{◌≡◌, refl, sym, ◌∙◌, ap, subst}
use lib.ListN.{drop}
use Rattle.dir_block_rules.specs.Block.{slots, slot, Slot}
use Rattle.dir_block_laws.proofs.SlotSearch.{slots_room, Run, run_start, run_other, run_end, run_stale, run_differs, run_hit, slot_read, live_inside, ordered, length_slots}
use Rattle.dir_block_lookup.specs.Hit.{found_as}
use Rattle.dir_block_lookup.proofs.seek.Goals as goal
use Rattle.dir_block_lookup.proofs.seek.Goals.{After-be32-a, then-a-ne0+else-named, else-a-ne0}

-- slot i
here : (c : After-be32-a)
    → drop c.loop-i.i (slots c.args.b.now) ≡ slot c.be32.result c.be32-a.result ∷ drop (c.loop-i.i + 1) (slots c.args.b.now)
here c =
    slot_read _ c.args.b.now c.requires.sane.0 c.requires.sane.1 c.args.end c.loop-i.i c.be32.result c.be32-a.result
    c.requires.end_value.0 (omega (arith, c.requires.end_value)) c.be32.ensures.0 c.be32-a.ensures.0

pub loop-i-init : goal.loop-i-init
loop-i-init c =
    let e = c.first_slot-i.ensures in
    let l : c.first_slot-i.result ≤ c.args.count = e.0 in (
      run_start _ c.args.b.now c.requires.sane.0 c.requires.sane.1 c.args.name.now c.first_slot-i.result c.args.h c.requires.h_value
          (omega (arith, c.requires.end_value, l)) e.1.0 e.1.1,
      e.0,
    )

pub overflow_mul-i : goal.overflow_mul-i
overflow_mul-i c = omega (arith, slots_room _ c.args.b.now c.requires.sane.0 c.requires.sane.1, c.requires.end_value)

pub overflow_add-end : goal.overflow_add-end
overflow_add-end c = omega (arith, slots_room _ c.args.b.now c.requires.sane.0 c.requires.sane.1, c.requires.end_value)

pub be32-requires : goal.be32-requires
be32-requires c = omega (arith, slots_room _ c.args.b.now c.requires.sane.0 c.requires.sane.1, c.requires.end_value)

pub returns-then-be32-h : goal.returns-then-be32-h
returns-then-be32-h c =
    let l = c.loop-i in
    let b = c.args.b.now in
    let s =
    slot_read _ b c.requires.sane.0 c.requires.sane.1 c.args.end l.i c.be32.result _ c.requires.end_value.0 (omega (arith, c.requires.end_value))
    c.be32.ensures.0 refl in
    let w =
    run_other _ b c.args.name.now l.i l.compared l.invariant.0 _ s c.args.count (ordered _ b c.requires.sane.0 c.requires.sane.1)
    (length_slots _ b c.requires.sane.1 ∙ sym c.requires.end_value.1) (omega arith) (λ z. c.if-be32-h.true (z ∙ sym c.requires.h_value)) in
    record { found = sym (ap found_as w); miss = λ h. w }

pub overflow_mul-i-in-loop-i : goal.overflow_mul-i-in-loop-i
overflow_mul-i-in-loop-i c = omega (arith, slots_room _ c.args.b.now c.requires.sane.0 c.requires.sane.1, c.requires.end_value)

pub overflow_add-end-in-loop-i : goal.overflow_add-end-in-loop-i
overflow_add-end-in-loop-i c = omega (arith, slots_room _ c.args.b.now c.requires.sane.0 c.requires.sane.1, c.requires.end_value)

pub overflow_add-end-in-loop-i-2 : goal.overflow_add-end-in-loop-i-2
overflow_add-end-in-loop-i-2 c = omega (arith, slots_room _ c.args.b.now c.requires.sane.0 c.requires.sane.1, c.requires.end_value)

pub be32-a-requires : goal.be32-a-requires
be32-a-requires c = omega (arith, slots_room _ c.args.b.now c.requires.sane.0 c.requires.sane.1, c.requires.end_value)

pub overflow_add-compared : goal.overflow_add-compared
overflow_add-compared c = omega (arith, c.loop-i.invariant.0.few, slots_room _ c.args.b.now c.requires.sane.0 c.requires.sane.1, c.requires.end_value)

pub named-requires : goal.named-requires
named-requires c =
    let r = slots_room _ c.args.b.now c.requires.sane.0 c.requires.sane.1 in
    omega (arith, r, c.requires.end_value, live_inside _ c.args.b.now c.requires.sane.0 c.requires.sane.1 c.loop-i.i _ _ (here (goal.at.named-requires c).After-be32-a) c.if-a-ne0.true)

pub returns-then-named : goal.returns-then-named
returns-then-named c =
    let l = c.loop-i in
    let w =
    run_hit _ c.args.b.now c.args.name.now l.i l.compared l.invariant.0 (slot c.be32.result c.be32-a.result) (here (goal.at.returns-then-named c).After-be32-a)
    c.if-a-ne0.true (c.if-be32-h.false ∙ c.requires.h_value) (sym c.named.ensures ∙ c.if-named.true) in
    record { found = sym (ap found_as w); miss = λ h. absurd (true≢false h) }

pub loop-i-preserved : goal.loop-i-preserved
loop-i-preserved c =
    let l = c.loop-i in
    let s : Slot = slot c.be32.result c.be32-a.result in
    let b = c.args.b.now in
    let n = c.args.name.now in
    let q = c.if-be32-h.false ∙ c.requires.h_value in
    let goes : ℕ → Type 0 = λ x. Run c.args.e b n (l.i + 1) x in
    let h = here (goal.at.loop-i-preserved c).After-be32-a in (
      elim c.if-a-ne0.branch [
        | then-a-ne0+else-named w ↦ subst goes (sym w.compared-is) (run_differs _ b n l.i l.compared l.invariant.0 s h w.if-a-ne0.true q (sym w.named.ensures ∙ w.if-named.false))
        | else-a-ne0 w ↦ subst goes (sym w.compared-is) (run_stale _ b n l.i l.compared l.invariant.0 s h w.if-a-ne0.false)
      ],
      omega arith,
    )

pub returns-after-loop-i : goal.returns-after-loop-i
returns-after-loop-i c =
    let l = c.loop-i in
    let w =
    run_end _ c.args.b.now c.args.name.now l.i l.compared l.invariant.0 c.args.count
    (length_slots _ c.args.b.now c.requires.sane.1 ∙ sym c.requires.end_value.1) (omega arith) l.invariant.1 in
    record { found = sym (ap found_as w); miss = λ h. w }
