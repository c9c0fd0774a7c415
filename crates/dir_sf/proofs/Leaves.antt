-- Numbers, file types and single entries, read.
-- Assumes nothing.
use Prim.Native.Nat.{ℕ, ◌+◌, ◌≤◌, ◌<◌}
use native.Mathlib.Omega.{arith}
use mathlib.Core.Bool.{true}
use mathlib.Core.Path.{◌≡◌, refl, ◌∙◌, ap}
use mathlib.Core.List.{List}
use lib.Dec.{eqb}
use lib.ListN.{length, get_or}
use borrow.Author.Tests.{ne_eqb}
use Rattle.be.specs.Bytes.{field}
use Rattle.be.proofs.Bools.{by_cases}
use Rattle.records.proofs.Starts.{start_fits}
use Rattle.edition.specs.declared.Edition.{Edition}
use Rattle.dir_sf.specs.Entry.{width_of, size_at}
use Rattle.dir_sf.specs.Inner.{enough}
use Rattle.dir_sf.proofs.Run.{enough_lies, long_at_is}

pub width_least : (wides : ℕ) → 4 ≤ width_of wides
unfolding width_of
width_least wides = by_cases (eqb wides 0) (λ q. rw q (omega arith)) (λ q. rw q (omega arith))

pub narrow : (wides : ℕ) → wides ≡ 0 → 4 ≡ width_of wides
unfolding width_of
narrow wides h = rw h refl

pub broad : (wides : ℕ) → (wides ≡ 0 → ⊥) → 8 ≡ width_of wides
unfolding width_of
broad wides h = rw (ne_eqb wides 0 h) refl

pub room_narrow : (wides o n : ℕ) → wides ≡ 0 → o + width_of wides ≤ n → o + 4 ≤ n
room_narrow wides o n h k = omega (arith, narrow wides h)

pub room_broad : (wides o n : ℕ) → (wides ≡ 0 → ⊥) → o + width_of wides ≤ n → o + 8 ≤ n
room_broad wides o n h k = omega (arith, broad wides h)

pub field_narrow : (wides o r : ℕ) (u : List ℕ) → wides ≡ 0 → r ≡ field o 4 u → r ≡ field o (width_of wides) u
field_narrow wides o r u h q = q ∙ ap (λ (w : ℕ). field o w u) (narrow wides h)

pub field_broad : (wides o r : ℕ) (u : List ℕ) → (wides ≡ 0 → ⊥) → r ≡ field o 8 u → r ≡ field o (width_of wides) u
field_broad wides o r u h q = q ∙ ap (λ (w : ℕ). field o w u) (broad wides h)

pub one_in : (e : Edition) (w p : ℕ) (u : List ℕ) → enough e w u 1 p ≡ true → p + 3 + get_or u p 0 + (e.ftype + w) ≤ length u
one_in e w p u h =
    omega (arith, enough_lies e w u 1 p h, start_fits (size_at e w u) 1 p (omega arith), long_at_is e w u p)

pub one_starts : (e : Edition) (w p : ℕ) (u : List ℕ) → enough e w u 1 p ≡ true → p < length u
one_starts e w p u h = omega (arith, one_in e w p u h)

pub one_ends : (e : Edition) (w p n : ℕ) (u : List ℕ) → enough e w u 1 p ≡ true → n ≡ get_or u p 0 → p + 3 + n + (e.ftype + w) ≤ length u
one_ends e w p n u h q = omega (arith, one_in e w p u h)
