-- The order of names: it is strict, and a walk over two names decides it.
-- Assumes nothing.
use Prim.Native.Nat.{ℕ, ◌+◌, ◌*◌, ◌≤◌, ◌<◌}
use native.Mathlib.Omega.{arith}
use mathlib.Core.Bool.{Bool, true, false, not, ◌&&◌, false≢true}
use mathlib.Core.Path.{◌≡◌, refl, sym, ◌∙◌, ap, ap₂}
use mathlib.Core.List.{List, [], ◌∷◌, ◌++◌}
use lib.Dec.{eqb, ltb}
use lib.ListN.{length, drop}
use borrow.Author.Tests.{ltb-true, lt-ltb, le-ltb, eqb-true, eq-eqb, ne_eqb}
use Rattle.be.proofs.Bools.{or_cases, or_left, or_right, and_left, and_right, and_both, and_false, clash}
use Rattle.std.specs.Prelude.{Some}
use Rattle.std.specs.Ordering.{nat_cmp, is_lt, is_some_and}
use Rattle.std.specs.Cmp.Lexicographic.{slice_partial_cmp}
use Rattle.be.specs.Bytes.{byte, part}
use Rattle.be.specs.Words.{le}
use Rattle.be.proofs.Parts.{piece}
use Rattle.be.proofs.Words.{word_bytes}
use Rattle.dir_block_rules.specs.Lookup.{name_at}
use Rattle.dir_block_twice.specs.Twice.{lex, Undecided, addr_at, live_at, sorts_before}

-- the library's order of slices
pub lex_lt : (x y : List ℕ) → is_some_and is_lt (slice_partial_cmp (λ (a b : ℕ). Some (nat_cmp a b)) x y) ≡ lex x y
unfolding lex
lex_lt [] [] = refl
lex_lt [] (b ∷ y) = refl
lex_lt (a ∷ x) [] = refl
lex_lt (a ∷ x) (b ∷ y) = grind (arith, lex_lt x y)

pub lex_strict : (x : List ℕ) → lex x x ≡ false
unfolding lex
lex_strict [] = refl
lex_strict (a ∷ x) = rw (le-ltb a a (omega arith), lex_strict x, and_false (eqb a a))

pub lex_trans : (x y z : List ℕ) → lex x y ≡ true → lex y z ≡ true → lex x z ≡ true
unfolding lex
lex_trans x y [] h k = k
lex_trans [] y (c ∷ z) h k = refl
lex_trans (a ∷ x) [] (c ∷ z) h k = absurd (false≢true h)
lex_trans (a ∷ x) (b ∷ y) (c ∷ z) h k =
    or_cases (ltb a b) (eqb a b && lex x y) h
    (λ p. or_cases (ltb b c) (eqb b c && lex y z) k
    (λ q. or_left (ltb a c) (eqb a c && lex x z) (lt-ltb a c (omega (arith, ltb-true a b p, ltb-true b c q))))
    (λ q. or_left (ltb a c) (eqb a c && lex x z) (lt-ltb a c (omega (arith, ltb-true a b p, eqb-true b c (and_left (eqb b c) (lex y z) q))))))
    (λ p. or_cases (ltb b c) (eqb b c && lex y z) k
    (λ q. or_left (ltb a c) (eqb a c && lex x z) (lt-ltb a c (omega (arith, eqb-true a b (and_left (eqb a b) (lex x y) p), ltb-true b c q))))
    (λ q. or_right (ltb a c) (eqb a c && lex x z) (and_both (eqb a c) (lex x z)
    (eq-eqb a c (eqb-true a b (and_left (eqb a b) (lex x y) p) ∙ eqb-true b c (and_left (eqb b c) (lex y z) q)))
    (lex_trans x y z (and_right (eqb a b) (lex x y) p) (and_right (eqb b c) (lex y z) q)))))

-- the same bytes before both
lex_behind : (p x y : List ℕ) → lex (p ++ x) (p ++ y) ≡ lex x y
unfolding lex
lex_behind [] x y = refl
lex_behind (a ∷ p) x y = rw (le-ltb a a (omega arith), eq-eqb a a refl) (lex_behind p x y)

-- a walk over two names
pub alike_word : (x y : List ℕ) → ((k : ℕ) → byte k x < 256) → ((k : ℕ) → byte k y < 256) → (k w u : ℕ) → Undecided x y k
    → k + 8 ≤ length x → k + 8 ≤ length y → w ≡ le (part k 8 x) → u ≡ le (part k 8 y) → w ≡ u → Undecided x y (k + 8)
alike_word x y kx ky k w u a l r p q e =
    let m : part k 8 x ≡ part k 8 y = sym (word_bytes x kx k l 8 w (omega arith) p) ∙ word_bytes y ky k r 8 w (omega arith) (e ∙ q) in
    let f : drop k x ≡ part k 8 y ++ drop (k + 8) x = sym (piece k 8 (k + 8) x refl) ∙ ap (λ (z : List ℕ). z ++ drop (k + 8) x) m in
    record {
      left = l;
      right = r;
      so_far = a.so_far ∙ ap₂ lex f (sym (piece k 8 (k + 8) y refl)) ∙ lex_behind (part k 8 y) (drop (k + 8) x) (drop (k + 8) y);
    }

module _ (x y : List ℕ) where
  pub alike_start : Undecided x y 0
  alike_start = record { left = omega arith; right = omega arith; so_far = refl }

-- slots that are live, and the order of their names
module _ (b : List ℕ) (t n : ℕ) where
  pub live_below : (i : ℕ) → live_at b t n i ≡ true → i < n
  unfolding live_at
  live_below i h = ltb-true i n (and_left (ltb i n) (not (eqb (addr_at b t i) 0)) h)

  pub live_addr : (i : ℕ) → live_at b t n i ≡ true → addr_at b t i ≡ 0 → ⊥
  unfolding live_at
  live_addr i h z = clash (and_right (ltb i n) (not (eqb (addr_at b t i) 0)) h) (rw (eq-eqb (addr_at b t i) 0 z))

  pub live_is : (i : ℕ) → i < n → (addr_at b t i ≡ 0 → ⊥) → live_at b t n i ≡ true
  unfolding live_at
  live_is i l a = and_both (ltb i n) (not (eqb (addr_at b t i) 0)) (lt-ltb i n l) (rw (ne_eqb (addr_at b t i) 0 a))

  pub live_past : (i : ℕ) → n ≤ i → false ≡ live_at b t n i
  unfolding live_at
  live_past i l = sym (rw (le-ltb i n l))

  pub live_here : (i a : ℕ) → i < n → a ≡ addr_at b t i → not (eqb a 0) ≡ live_at b t n i
  unfolding live_at
  live_here i a l e = rw (e, lt-ltb i n l)

  pub before_left : (i j : ℕ) (x : Bool) → x ≡ live_at b t n i → x ≡ false → false ≡ sorts_before b t n i j
  unfolding sorts_before
  before_left i j x xs z = sym (rw (sym xs ∙ z))

  pub before_right : (i j : ℕ) (x y : Bool) → x ≡ live_at b t n i → x ≡ true → y ≡ live_at b t n j → y ≡ false → false ≡ sorts_before b t n i j
  unfolding sorts_before
  before_right i j x y xs z ys w = sym (rw (sym xs ∙ z, sym ys ∙ w))

  pub before_names : (i j a c : ℕ) (x y r : Bool) → x ≡ live_at b t n i → x ≡ true → y ≡ live_at b t n j → y ≡ true
      → a ≡ addr_at b t i → c ≡ addr_at b t j → r ≡ lex (name_at b (8 * a)) (name_at b (8 * c)) → r ≡ sorts_before b t n i j
  unfolding sorts_before
  before_names i j a c x y r xs z ys w ea ec h = h ∙ sym (rw (sym xs ∙ z, sym ys ∙ w, sym ea, sym ec))

  pub before_at : (i j u v : ℕ) (r : Bool) → i ≡ u → j ≡ v → r ≡ sorts_before b t n i j → r ≡ sorts_before b t n u v
  before_at i j u v r ui vj h = h ∙ ap₂ (sorts_before b t n) ui vj
