-- Legal names and numbers: the tests in the code's order, and what a legal one is known to have.
-- Assumes nothing.
use Prim.Native.Nat.{ℕ, ◌^◌, ◌≤◌, ◌<◌}
use mathlib.Core.Bool.{Bool, true, false, not, ◌&&◌}
use mathlib.Core.Path.{◌≡◌, refl, sym, ◌∙◌}
use mathlib.Core.List.{List, [], ◌∷◌}
use lib.Dec.{eqb, leb, ltb}
use lib.ListN.{length}
use borrow.Author.Tests.{le-leb, lt-leb, leb-true, ltb-true}
use Rattle.be.specs.Lists.{every, same}
use Rattle.be.proofs.Bools.{by_cases, and_left, and_right}
use Rattle.edition.specs.declared.Edition.{Edition}
use Rattle.name.specs.Name.{legal_by, clear_of, legal_byte, legal_name, legal_attr_name, legal_number, fixed_name, dot, dotdot}

module _ (p : ℕ → Bool) (n : List ℕ) where
  by_none : length n < 1 → false ≡ legal_by p n
  by_none h = rw (lt-leb 1 (length n) h) refl

  by_long : 255 < length n → false ≡ legal_by p n
  by_long h = by_cases (leb 1 (length n)) (λ q. rw (q, lt-leb (length n) 255 h) refl) (λ q. rw q refl)

  by_bytes : 1 ≤ length n → length n ≤ 255 → every p n ≡ legal_by p n
  by_bytes h k = rw (le-leb 1 (length n) h, le-leb (length n) 255 k) refl

  by_bounds : legal_by p n ≡ true → (1 ≤ length n) × (length n ≤ 255)
  by_bounds h =
      let a : Bool = leb 1 (length n) in
      let b : Bool = leb (length n) 255 in
      let q : (leb 1 (length n) && leb (length n) 255) ≡ true = and_left (leb 1 (length n) && leb (length n) 255) (every p n) h in
      (leb-true 1 (length n) (and_left (leb 1 (length n)) _ q), leb-true (length n) 255 (and_right (leb 1 (length n)) _ q))

-- ---- names of a directory

module _ (e : Edition) (n : List ℕ) where
  pub legal_none : length n < 1 → false ≡ legal_name e n
  unfolding legal_name
  legal_none h = by_none legal_byte n h

  pub legal_long : 255 < length n → false ≡ legal_name e n
  unfolding legal_name
  legal_long h = by_long legal_byte n h

  pub legal_rest : 1 ≤ length n → length n ≤ 255 → every (clear_of 47) n ≡ legal_name e n
  unfolding legal_name
  legal_rest h k = by_bytes legal_byte n h k

  pub legal_bounds : legal_name e n ≡ true → (1 ≤ length n) × (length n ≤ 255)
  unfolding legal_name
  legal_bounds h = by_bounds legal_byte n h

-- ---- names of attributes

clear_twice : (n : List ℕ) → every (clear_of 0) n ≡ every (λ x. not (eqb x 0)) n
clear_twice [] = refl
clear_twice (x ∷ xs) = by_cases (eqb x 0) (λ q. rw q refl) (λ q. rw q (clear_twice xs))

module _ (n : List ℕ) where
  pub attr_none : length n < 1 → false ≡ legal_attr_name n
  unfolding legal_attr_name
  attr_none h = by_none (λ x. not (eqb x 0)) n h

  pub attr_long : 255 < length n → false ≡ legal_attr_name n
  unfolding legal_attr_name
  attr_long h = by_long (λ x. not (eqb x 0)) n h

  pub attr_rest : 1 ≤ length n → length n ≤ 255 → every (clear_of 0) n ≡ legal_attr_name n
  unfolding legal_attr_name
  attr_rest h k = clear_twice n ∙ by_bytes (λ x. not (eqb x 0)) n h k

  pub attr_bounds : legal_attr_name n ≡ true → (1 ≤ length n) × (length n ≤ 255)
  unfolding legal_attr_name
  attr_bounds h = by_bounds (λ x. not (eqb x 0)) n h

-- ---- numbers, and the two fixed names

pub number_bounds : (i : ℕ) → legal_number i ≡ true → (1 ≤ i) × (i < 2 ^ 56)
unfolding legal_number
number_bounds i h = (leb-true 1 i (and_left (leb 1 i) (ltb i (2 ^ 56)) h), ltb-true i (2 ^ 56) (and_right (leb 1 i) (ltb i (2 ^ 56)) h))

pub fixed_dot : (n : List ℕ) (a : Bool) → a ≡ same n dot → a ≡ true → true ≡ fixed_name n
unfolding fixed_name
fixed_dot n a h q = rw (sym h ∙ q) refl

pub fixed_rest : (n : List ℕ) (a b : Bool) → a ≡ same n dot → a ≡ false → b ≡ same n dotdot → b ≡ fixed_name n
unfolding fixed_name
fixed_rest n a b h q k = rw (sym h ∙ q) k

-- "." and ".." are legal names
pub dot_legal : (e : Edition) → legal_name e dot ≡ true
unfolding legal_name
dot_legal e = refl

pub dotdot_legal : (e : Edition) → legal_name e dotdot ≡ true
unfolding legal_name
dotdot_legal e = refl
