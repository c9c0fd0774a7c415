-- Name equality: what the rules above use of it.
-- Assumes nothing.
use Prim.Native.Nat.{ℕ}
use mathlib.Core.Bool.{true, false, false≢true}
use mathlib.Core.Path.{◌≡◌, refl, ap, ap₂, sym, ◌∙◌}
use mathlib.Core.List.{List, [], ◌∷◌}
use lib.Dec.{eqb}
use lib.ListN.{length}
use borrow.Author.Tests.{eqb-true, eq-eqb}
use Rattle.be.specs.Lists.{same}
use Rattle.be.proofs.Bools.{and_left, and_right, and_both, neither, or_cases, by_cases, clash}
use Rattle.edition.specs.declared.Edition.{Edition}
use Rattle.name.specs.Name.{same_name, hash_of, legal_name, fixed_name, dot, dotdot}
use Rattle.name.proofs.Legality.{dot_legal, dotdot_legal}

pub same_refl : (n : List ℕ) → same n n ≡ true
same_refl [] = refl
same_refl (x ∷ xs) = and_both (eqb x x) (same xs xs) (eq-eqb x x refl) (same_refl xs)

pub same_eq : (n m : List ℕ) → same n m ≡ true → n ≡ m
same_eq [] [] h = refl
same_eq [] (y ∷ ys) h = absurd (false≢true h)
same_eq (x ∷ xs) [] h = absurd (false≢true h)
same_eq (x ∷ xs) (y ∷ ys) h =
    ap₂ (λ (a : ℕ) (l : List ℕ). a ∷ l) (eqb-true x y (and_left (eqb x y) (same xs ys) h)) (same_eq xs ys (and_right (eqb x y) (same xs ys) h))

-- not "." and not ".."
pub not_fixed : (n : List ℕ) → fixed_name n ≡ false → (same n dot ≡ false) × (same n dotdot ≡ false)
unfolding fixed_name
not_fixed n h = neither (same n dot) (same n dotdot) h

module _ (e : Edition) where
  pub same_name_refl : (n : List ℕ) → same_name e n n ≡ true
  unfolding same_name
  same_name_refl n = same_refl n

  pub same_name_sym : (n m : List ℕ) → same_name e n m ≡ true → same_name e m n ≡ true
  unfolding same_name
  same_name_sym n m h = rw (same_eq n m h) (same_refl m)

  pub same_name_swap : (n m : List ℕ) → same_name e n m ≡ same_name e m n
  same_name_swap n m =
      by_cases (same_name e n m)
      (λ q. q ∙ sym (same_name_sym n m q))
      (λ q. by_cases (same_name e m n) (λ y. absurd (clash (same_name_sym m n y) q)) (λ y. q ∙ sym y))

  pub same_name_trans : (n m k : List ℕ) → same_name e n m ≡ true → same_name e m k ≡ true → same_name e n k ≡ true
  unfolding same_name
  same_name_trans n m k h g = rw (same_eq n m h) g

  pub same_name_hash : (n m : List ℕ) → same_name e n m ≡ true → hash_of e n ≡ hash_of e m
  unfolding same_name
  same_name_hash n m h = ap (hash_of e) (same_eq n m h)

  pub same_name_length : (n m : List ℕ) → same_name e n m ≡ true → length n ≡ length m
  unfolding same_name
  same_name_length n m h = ap length (same_eq n m h)

  pub same_name_fixed : (n m : List ℕ) → same_name e n m ≡ true → fixed_name n ≡ fixed_name m
  unfolding same_name
  same_name_fixed n m h = ap fixed_name (same_eq n m h)

  pub same_name_legal : (n m : List ℕ) → same_name e n m ≡ true → legal_name e n ≡ legal_name e m
  unfolding same_name
  same_name_legal n m h = ap (legal_name e) (same_eq n m h)

  -- "." and ".." are the same name as themselves alone
  pub same_name_as_fixed : (n d : List ℕ) → fixed_name d ≡ true → same_name e n d ≡ same n d
  unfolding same_name
  same_name_as_fixed n d h = refl

  -- and are legal
  pub fixed_legal : (n : List ℕ) → fixed_name n ≡ true → legal_name e n ≡ true
  unfolding fixed_name
  fixed_legal n h =
      or_cases (same n dot) (same n dotdot) h
      (λ q. ap (legal_name e) (same_eq n dot q) ∙ dot_legal e)
      (λ q. ap (legal_name e) (same_eq n dotdot q) ∙ dotdot_legal e)
