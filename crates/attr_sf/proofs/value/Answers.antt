use Prim.Native.Nat.{ℕ, ◌+◌, ◌-◌, ◌≤◌}
use native.Mathlib.Omega.{arith}
use native.Mathlib.Nat.{add-sub_cancel_left}
use mathlib.Core.Path.{◌≡◌, refl, sym, ap, ◌∙◌}
use mathlib.Core.List.{List}
use lib.ListN.{length}
use borrow.Author.Rules.{rules}
use Rattle.refusal.specs.Refusal.{numbered}
use Rattle.be.specs.Bytes.{part}
use Rattle.be.proofs.Parts.{part_length}
use Rattle.attr_sf.proofs.LookupLaws.{looked_inside}
use Rattle.attr_sf.proofs.value.Goals as goal

-- the part from a to a + n
found_part : (a n : ℕ) (b : List ℕ) → part a (a + n - a) b ≡ part a n b
found_part a n b = rw (add-sub_cancel_left a n)

found_long : (a n : ℕ) (b : List ℕ) → a + n ≤ length b → length (part a (a + n - a) b) ≡ n
found_long a n b h = rw (add-sub_cancel_left a n) (part_length a n b h)

pub overflow_add-result : goal.overflow_add-result
overflow_add-result c = omega (arith, looked_inside _ _ _ _ (ap numbered (sym c.in-Ok.is) ∙ c.lookup.ensures.0))

pub slice_bounds-result-end : goal.slice_bounds-result-end
slice_bounds-result-end c = omega (arith, looked_inside _ _ _ _ (ap numbered (sym c.in-Ok.is) ∙ c.lookup.ensures.0))

pub returns-in-Ok : goal.returns-in-Ok
returns-in-Ok c = let b = c.args.b.now in
    let a = c.in-Ok.field-0.start in
    let n = c.in-Ok.field-0.len in
    let h = ap numbered (sym c.in-Ok.is) ∙ c.lookup.ensures.0 in
    rw (← h) (record { contents = found_part a n b; place = (refl, search rules); long = found_long a n b (looked_inside _ _ _ _ h) })
