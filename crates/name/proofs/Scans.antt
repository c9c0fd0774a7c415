-- Bytes tested one after the other: the turns and the ends of the loops over names.
-- Assumes nothing.
use Prim.Native.Nat.{ℕ, suc, ◌+◌, ◌≤◌, ◌<◌}
use native.Mathlib.Numerals.{add-one}
use native.Mathlib.Omega.{arith}
use mathlib.Core.Bool.{Bool, true, false, cond, ◌&&◌, and_assoc}
use mathlib.Core.Path.{◌≡◌, refl, sym, ◌∙◌, ap}
use mathlib.Core.List.{List, [], ◌∷◌, ◌++◌}
use lib.Bits.{bit_or, or_zero_r, or_add_and, and_le_l}
use lib.Dec.{eqb}
use lib.ListN.{length, drop, get_or, drop_of_length-le}
use lib.Seq.{drop-cons, drop-length}
use borrow.Author.Tests.{eq-eqb, ne_eqb}
use Rattle.be.specs.Lists.{every, same}
use Rattle.be.proofs.Bools.{by_cases, and_true, and_false}

-- ---- the bytes of one turn, and those behind them

pub one_at : (s : List ℕ) (i : ℕ) → i < length s → drop i s ≡ (get_or s i 0 ∷ []) ++ drop (i + 1) s
one_at s i h = rw add-one (drop-cons s i 0 h)

pub four_at : (s : List ℕ) (i : ℕ) → i + 4 ≤ length s
    → drop i s ≡ (get_or s i 0 ∷ get_or s (i + 1) 0 ∷ get_or s (i + 2) 0 ∷ get_or s (i + 3) 0 ∷ []) ++ drop (i + 4) s
four_at s i h =
    rw (
      next i (i + 1) refl (omega arith),
      next (i + 1) (i + 2) (omega arith) (omega arith),
      next (i + 2) (i + 3) (omega arith) (omega arith),
      next (i + 3) (i + 4) (omega arith) (omega arith),
    )
  where
    next : (j k : ℕ) → j + 1 ≡ k → j < length s → drop j s ≡ get_or s j 0 ∷ drop k s
    next j k e p = rw (← e) (one_at s j p)

-- ---- a test of every byte

pub every_end : (p : ℕ → Bool) (s : List ℕ) (i : ℕ) → length s ≤ i → every p (drop i s) ≡ true
every_end p s i h = rw (drop_of_length-le s h) refl

none_bad : (n : ℕ) (c : Bool) → eqb (bit_or n (cond c 0 1)) 0 ≡ (eqb n 0 && c)
none_bad n true = rw (or_zero_r n) (sym (and_true (eqb n 0)))
none_bad n false = ne_eqb (bit_or n 1) 0 (λ (z : bit_or n 1 ≡ 0). omega (arith, or_add_and n 1, and_le_l n 1)) ∙ sym (and_false (eqb n 0))

-- n is 0 if all bytes before i pass: a turn, and the end
module _ (p : ℕ → Bool) (s : List ℕ) (i n : ℕ) (so : every p s ≡ (eqb n 0 && every p (drop i s))) where
  pub every_turn : i < length s → (x : ℕ) → x ≡ cond (p (get_or s i 0)) 0 1 → every p s ≡ (eqb (bit_or n x) 0 && every p (drop (i + 1) s))
  every_turn h x q =
      so ∙ rw (add-one, drop-cons s i 0 h) (sym (and_assoc (eqb n 0) (p (get_or s i 0)) (every p (drop (suc i) s))))
      ∙ ap (λ (t : Bool). t && every p (drop (i + 1) s)) (sym (ap (λ (y : ℕ). eqb (bit_or n y) 0) q ∙ none_bad n (p (get_or s i 0))))

  pub every_done : length s ≤ i → eqb n 0 ≡ every p s
  every_done h = sym (so ∙ rw (every_end p s i h) (and_true (eqb n 0)))

-- ---- two runs of bytes, byte by byte

pub same_on : (s t : List ℕ) (i : ℕ) → i < length s → i < length t → get_or s i 0 ≡ get_or t i 0 → same (drop i s) (drop i t) ≡ same (drop (i + 1) s) (drop (i + 1) t)
same_on s t i h k q = rw (add-one, drop-cons s i 0 h, drop-cons t i 0 k, eq-eqb _ _ q) refl

pub same_stop : (s t : List ℕ) (i : ℕ) → i < length s → i < length t → (get_or s i 0 ≡ get_or t i 0 → ⊥) → same (drop i s) (drop i t) ≡ false
same_stop s t i h k q = rw (drop-cons s i 0 h, drop-cons t i 0 k, ne_eqb _ _ q) refl

pub same_end : (s t : List ℕ) (i : ℕ) → i ≡ length s → length s ≡ length t → same (drop i s) (drop i t) ≡ true
same_end s t i h k =
    let q : i ≡ length t = h ∙ k in
    let a : drop i s ≡ [] = rw (h, drop-length s) refl in
    let b : drop i t ≡ [] = rw (q, drop-length t) refl in
    rw (a, b) refl

pub unlike : (s t : List ℕ) → (length s ≡ length t → ⊥) → false ≡ same s t
unlike [] [] h = absurd (h refl)
unlike [] (y ∷ t) h = refl
unlike (x ∷ s) [] h = refl
unlike (x ∷ s) (y ∷ t) h =
    by_cases (eqb x y) (λ q. rw q (unlike s t (λ k. h (ap suc k)))) (λ q. rw q refl)

-- as long as each other, and v says whether they are equal from i on
pub record Alike (v : Bool) (s t : List ℕ) (i : ℕ) : Type 0 where
  pub upto : i ≤ length s
  pub long : length s ≡ length t
  pub rest : v ≡ same (drop i s) (drop i t)

module _ (v : Bool) (s t : List ℕ) (i : ℕ) where
  pub alike_next : Alike v s t i → i < length s → get_or s i 0 ≡ get_or t i 0 → Alike v s t (i + 1)
  alike_next a h q = record { upto = omega arith; long = a.long; rest = a.rest ∙ same_on s t i h (omega arith) q }

  pub alike_not : Alike v s t i → i < length s → (get_or s i 0 ≡ get_or t i 0 → ⊥) → false ≡ v
  alike_not a h q = sym (a.rest ∙ same_stop s t i h (omega arith) q)

  pub alike_done : Alike v s t i → length s ≤ i → true ≡ v
  alike_done a h = let q : i ≡ length s = omega arith in sym (a.rest ∙ same_end s t i q a.long)
