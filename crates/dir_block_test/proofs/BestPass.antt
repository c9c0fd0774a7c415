-- BEST's pass: one gap at a time.
-- Assumes nothing.
use Prim.Native.Nat.{ℕ, ◌<◌}
use mathlib.Core.Bool.{Bool, true, false, ◌&&◌, ◌||◌}
use mathlib.Core.Path.{◌≡◌, refl, sym, ◌∙◌, ap, ap₂}
use mathlib.Core.List.{List, [], ◌∷◌}
use native.Mathlib.Omega.{arith}
use lib.Dec.{eqb, leb}
use lib.ListN.{length, get_or, set}
use lib.Seq.{get_or-set_same, get_or-set_other}
use borrow.Author.Tests.{eqb-true, eqb-false}
use Rattle.std.specs.Prelude.{Some, None}
use Rattle.be.specs.Lists.{some_of}
use Rattle.dir_block_rules.specs.Record.{Rec, size}
use Rattle.dir_block_rules.specs.Verdict.{Pair, is_gap_of}
use Rattle.be.proofs.Bools.{by_cases, and_true, or_true, or_false}
use Rattle.dir_block_test.specs.Passes.{best_left, which, unnamed}
use Rattle.dir_block_test.proofs.TileWalk.{some_none, some_same}

none_of : (x y z : Bool) → (x && (y && (z && false))) ≡ false
none_of true true true = refl
none_of true true false = refl
none_of true false z = refl
none_of false y z = refl

-- the tests of a gap, one after the other
module _ (o n : ℕ) (p q r : Pair) (a : Bool) (ea : a ≡ (eqb o p.from && eqb n p.long)) where
  pub which_first : a ≡ true → Some 0 ≡ which o n p q r
  unfolding which
  which_first z = sym (rw (sym ea ∙ z))

  module _ (af : a ≡ false) (b : Bool) (bs : b ≡ (eqb o q.from && eqb n q.long)) where
    pub which_second : b ≡ true → Some 1 ≡ which o n p q r
    unfolding which
    which_second z = sym (rw (sym ea ∙ af, sym bs ∙ z))

    module _ (bf : b ≡ false) (c : Bool) (cs : c ≡ (eqb o r.from && eqb n r.long)) where
      pub which_third : c ≡ true → Some 2 ≡ which o n p q r
      unfolding which
      which_third z = sym (rw (sym ea ∙ af, sym bs ∙ bf, sym cs ∙ z))

      pub which_none : c ≡ false → None ≡ which o n p q r
      unfolding which
      which_none z = sym (rw (sym ea ∙ af, sym bs ∙ bf, sym cs ∙ z))

-- the index that is answered is one of three
pub which_index : (o n : ℕ) (p q r : Pair) (i : ℕ) → Some i ≡ which o n p q r → i < 3
unfolding which
which_index o n p q r i h =
    by_cases (eqb o p.from && eqb n p.long)
    (λ a. let k : i ≡ 0 = some_same (h ∙ rw a refl) in omega arith)
    (λ a. by_cases (eqb o q.from && eqb n q.long)
    (λ b. let k : i ≡ 1 = some_same (h ∙ rw (a, b) refl) in omega arith)
    (λ b. by_cases (eqb o r.from && eqb n r.long)
    (λ c. let k : i ≡ 2 = some_same (h ∙ rw (a, b, c) refl) in omega arith)
    (λ c. absurd (some_none (h ∙ rw (a, b, c) refl)))))

-- a flag that is set beside others
pub flag : (l : List Bool) (i j : ℕ) → j < length l → get_or (set l i true) j false ≡ (get_or l j false || eqb i j)
flag l i j h =
    by_cases (eqb i j)
    (λ q. let k : i ≡ j = eqb-true i j q in rw (q, or_true (get_or l j false)) (rw k (get_or-set_same l j true false h)))
    (λ q. rw (q, or_false (get_or l j false)) (get_or-set_other l i j true false (λ (z : j ≡ i). eqb-false i j q (sym z))))

-- a gap at the head: a pair names it, or none does
module _ (p q r : Pair) (x y z : Bool) (g : Rec) (gs : List Rec) where
  best_named : (i : ℕ) → Some i ≡ which g.off (size g) p q r
      → best_left x y z p q r (g ∷ gs) ≡ best_left (x || eqb i 0) (y || eqb i 1) (z || eqb i 2) p q r gs
  unfolding best_left which
  best_named i h =
      by_cases (is_gap_of p g)
      (λ a. let k : i ≡ 0 = some_same (h ∙ rw a refl) in rw (k, a, or_true x, or_false y, or_false z))
      (λ a. by_cases (is_gap_of q g)
      (λ b. let k : i ≡ 1 = some_same (h ∙ rw (a, b) refl) in rw (k, a, b, or_true y, or_false x, or_false z))
      (λ b. by_cases (is_gap_of r g)
      (λ c. let k : i ≡ 2 = some_same (h ∙ rw (a, b, c) refl) in rw (k, a, b, c, or_true z, or_false x, or_false y))
      (λ c. absurd (some_none (h ∙ rw (a, b, c) refl)))))

  best_other : None ≡ which g.off (size g) p q r → best_left x y z p q r (g ∷ gs) ≡ (leb (size g) r.long && best_left x y z p q r gs)
  unfolding best_left which
  best_other h =
      by_cases (is_gap_of p g)
      (λ a. absurd (some_none {n = 0} (sym (h ∙ rw a refl))))
      (λ a. by_cases (is_gap_of q g)
      (λ b. absurd (some_none {n = 1} (sym (h ∙ rw (a, b) refl))))
      (λ b. by_cases (is_gap_of r g)
      (λ c. absurd (some_none {n = 2} (sym (h ∙ rw (a, b, c) refl))))
      (λ c. by_cases (leb (size g) r.long)
      (λ d. rw (a, b, c, d))
      (λ d. rw (a, b, c, d) (none_of (x || some_of (is_gap_of p) gs) (y || some_of (is_gap_of q) (unnamed p gs)) (z || some_of (is_gap_of r) (unnamed q (unnamed p gs))))))))

-- the gap R, of n bytes at o
module _ (p q r : Pair) (x y z : Bool) (o n : ℕ) (R : Rec) (oR : R.off ≡ o) (nR : size R ≡ n) (gs : List Rec) where
  here : which o n p q r ≡ which R.off (size R) p q r
  here = ap₂ (λ (i j : ℕ). which i j p q r) (sym oR) (sym nR)

  pub met_named : (i : ℕ) → Some i ≡ which o n p q r → best_left x y z p q r (R ∷ gs) ≡ best_left (x || eqb i 0) (y || eqb i 1) (z || eqb i 2) p q r gs
  met_named i h = best_named p q r x y z R gs i (h ∙ here)

  pub met_other : None ≡ which o n p q r → best_left x y z p q r (R ∷ gs) ≡ (leb n r.long && best_left x y z p q r gs)
  met_other h = best_other p q r x y z R gs (h ∙ here) ∙ ap (λ (j : ℕ). leb j r.long && best_left x y z p q r gs) nR

pub best_end : (p q r : Pair) (x y z : Bool) → (x && (y && z)) ≡ best_left x y z p q r []
unfolding best_left
best_end p q r x y z = sym (rw (or_false x, or_false y, or_false z) (ap (λ (w : Bool). x && (y && w)) (and_true z)))
