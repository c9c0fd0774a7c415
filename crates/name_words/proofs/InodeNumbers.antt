-- An inode number by one little-endian word: the first byte is 0, and not all are.
-- Assumes nothing.
use Prim.Native.Nat.{ℕ, ◌+◌, ◌*◌, ◌%◌, ◌^◌, ◌≤◌, ◌<◌}
use mathlib.Core.Path.{◌≡◌, refl, sym, ◌∙◌, ap, subst}
use mathlib.Core.Bool.{true, not, ◌&&◌}
use mathlib.Core.List.{List, ◌∷◌}
use native.Mathlib.Omega.{arith}
use lib.Arith.{digits_mod}
use lib.Dec.{eqb, leb}
use lib.ListN.{length}
use borrow.Author.Tests.{eqb-true, eqb-false, le-leb, lt-leb, lt-ltb, le-ltb}
use Rattle.be.specs.Bytes.{be, be_from, byte, part, field}
use Rattle.be.specs.Words.{le}
use Rattle.be.proofs.Bools.{by_cases}
use Rattle.be.proofs.Numbers.{be_high, be_lt}
use Rattle.be.proofs.Parts.{part_length}
use Rattle.be.proofs.Words.{Bytes, none, more, bytes_true, bytes_part, le_zero, be_zero}
use Rattle.name.specs.Name.{legal_number}

number_law : {l : List ℕ} → Bytes l → length l ≡ 8 → (not (eqb (le l) 0) && eqb (le l % 256) 0) ≡ legal_number (be l)
unfolding le be be_from legal_number
number_law none q = absurd (omega arith)
number_law (more {x} {xs} p b) q =
    let n : length xs ≡ 7 = omega arith in
    let B : be_from (0 * 256 + x) xs ≡ (0 * 256 + x) * 256 ^ 7 + be_from 0 xs =
    be_high (0 * 256 + x) xs ∙ ap (λ (k : ℕ). (0 * 256 + x) * 256 ^ k + be_from 0 xs) n in
    let u : be_from 0 xs < 256 ^ 7 = subst (λ (k : ℕ). be_from 0 xs < 256 ^ k) n (be_lt xs (bytes_true b)) in
    let m : (le xs * 256 + x) % 256 ≡ x = digits_mod (le xs) p in
    by_cases (eqb (le xs * 256 + x) 0)
    (λ z.
    let e : be_from (0 * 256 + x) xs ≡ 0 = le_zero (x ∷ xs) (eqb-true (le xs * 256 + x) 0 z) in
    rw (z, lt-leb 1 (be_from (0 * 256 + x) xs) (omega arith)) refl)
    (λ z.
    let d : be_from (0 * 256 + x) xs ≡ 0 → ⊥ = λ (y : be_from (0 * 256 + x) xs ≡ 0). eqb-false (le xs * 256 + x) 0 z (be_zero (x ∷ xs) y) in
    let g : leb 1 (be_from (0 * 256 + x) xs) ≡ true = le-leb 1 (be_from (0 * 256 + x) xs) (least (be_from (0 * 256 + x) xs) d) in
    by_cases (eqb ((le xs * 256 + x) % 256) 0)
    (λ y.
    let f : x ≡ 0 = sym m ∙ eqb-true ((le xs * 256 + x) % 256) 0 y in
    rw (z, y, g, lt-ltb (be_from (0 * 256 + x) xs) (2 ^ 56) (omega arith)) refl)
    (λ y.
    let f : x ≡ 0 → ⊥ = λ (v : x ≡ 0). eqb-false ((le xs * 256 + x) % 256) 0 y (m ∙ v) in
    rw (z, y, g, le-ltb (be_from (0 * 256 + x) xs) (2 ^ 56) (high x (be_from 0 xs) (be_from (0 * 256 + x) xs) f B)) refl))
  where
    least : (k : ℕ) → (k ≡ 0 → ⊥) → 1 ≤ k
    least k d = omega arith

    high : (x r k : ℕ) → (x ≡ 0 → ⊥) → k ≡ (0 * 256 + x) * 256 ^ 7 + r → 2 ^ 56 ≤ k
    high x r k f e = omega arith

pub number_at : (b : List ℕ) → ((i : ℕ) → byte i b < 256) → (o : ℕ) → o + 8 ≤ length b → (w : ℕ) → w ≡ le (part o 8 b)
    → (not (eqb w 0) && eqb (w % 256) 0) ≡ legal_number (field o 8 b)
number_at b known o fits w ew =
    ap (λ (k : ℕ). not (eqb k 0) && eqb (k % 256) 0) ew ∙ number_law (bytes_part b known o 8) (part_length o 8 b fits)
