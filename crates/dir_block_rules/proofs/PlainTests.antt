-- Tests over numbers and over the elements of a list.
-- Assumes nothing.
use Prim.Native.Nat.{ℕ, ◌+◌}
use native.Mathlib.Omega.{arith}
use mathlib.Core.Bool.{Bool, true, not, ◌||◌}
use mathlib.Core.Path.{◌≡◌, refl, sym, ◌∙◌}
use mathlib.Core.List.{List, [], ◌∷◌}
use lib.Dec.{eqb}
use borrow.Author.Tests.{eqb-true, eq-eqb, ne_eqb}
use Rattle.be.specs.Lists.{every, some_of, keep}
use Rattle.be.proofs.Bools.{by_cases, clash, or_left, or_right, or_cases, every_head, every_tail, every_cons}

pub eqb_add : (n a b : ℕ) → eqb (n + a) (n + b) ≡ eqb a b
eqb_add n a b =
    by_cases (eqb a b)
    (λ q. let z : a ≡ b = eqb-true a b q in eq-eqb (n + a) (n + b) (omega arith) ∙ sym q)
    (λ q. ne_eqb (n + a) (n + b) (λ (z : n + a ≡ n + b). clash (eq-eqb a b (omega arith)) q) ∙ sym q)

module _ {A : Type 0} where
  pub every_from : (p q : A → Bool) → ((x : A) → p x ≡ true → q x ≡ true) → (xs : List A) → every p xs ≡ true → every q xs ≡ true
  every_from p q f [] h = refl
  every_from p q f (x ∷ xs) h = every_cons q x xs (f x (every_head p x xs h)) (every_from p q f xs (every_tail p x xs h))

  pub every_two : (p q r : A → Bool) → ((x : A) → p x ≡ true → q x ≡ true → r x ≡ true) → (xs : List A) → every p xs ≡ true → every q xs ≡ true → every r xs ≡ true
  every_two p q r f [] h k = refl
  every_two p q r f (x ∷ xs) h k =
      every_cons r x xs (f x (every_head p x xs h) (every_head q x xs k)) (every_two p q r f xs (every_tail p x xs h) (every_tail q x xs k))

  pub every_true : (xs : List A) → every (λ x. true) xs ≡ true
  every_true [] = refl
  every_true (x ∷ xs) = every_true xs

  pub some_kept : (p q : A → Bool) (xs : List A) → some_of p (keep q xs) ≡ true → some_of p xs ≡ true
  some_kept p q [] h = h
  some_kept p q (x ∷ xs) h =
      by_cases (q x)
      (λ k. or_cases (p x) (some_of p (keep q xs)) (rw k at h) (λ z. or_left (p x) (some_of p xs) z) (λ z. or_right (p x) (some_of p xs) (some_kept p q xs z)))
      (λ k. or_right (p x) (some_of p xs) (some_kept p q xs (rw k at h)))

  -- a test of those that are left out, or of all the others
  pub every_besides : (g p : A → Bool) (xs : List A) → every (λ x. g x || p x) xs ≡ every p (keep (λ x. not (g x)) xs)
  every_besides g p [] = refl
  every_besides g p (x ∷ xs) = by_cases (g x) (λ q. rw q (every_besides g p xs)) (λ q. rw (q, every_besides g p xs))
