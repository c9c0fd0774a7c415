-- A list with an element in its middle: tests over it, and the place where one passes.
-- Assumes nothing.
use Prim.Native.Nat.{ℕ, suc, ◌+◌, ◌<◌}
use native.Mathlib.Omega.{arith}
use mathlib.Core.Bool.{Bool, true, false, not, ◌&&◌, ◌||◌, cond, true≢false, false≢true}
use mathlib.Core.Path.{◌≡◌, refl, sym, ◌∙◌, ap}
use mathlib.Core.List.{List, [], ◌∷◌, ◌++◌, map, map-append}
use lib.ListN.{length}
use Rattle.be.specs.Lists.{every, some_of, tally}
use Rattle.be.proofs.Bools.{by_cases, and_left, and_swap}

or_swap : (a b c : Bool) → (a || (b || c)) ≡ (b || (a || c))
or_swap false b c = refl
or_swap true true c = refl
or_swap true false c = refl

module _ {A : Type 0} where
  pub every_mid : (p : A → Bool) (xs : List A) (x : A) (ys : List A) → every p (xs ++ x ∷ ys) ≡ (p x && every p (xs ++ ys))
  every_mid p [] x ys = refl
  every_mid p (z ∷ xs) x ys = ap (λ (t : Bool). p z && t) (every_mid p xs x ys) ∙ and_swap (p z) (p x) (every p (xs ++ ys))

  pub some_mid : (p : A → Bool) (xs : List A) (x : A) (ys : List A) → some_of p (xs ++ x ∷ ys) ≡ (p x || some_of p (xs ++ ys))
  some_mid p [] x ys = refl
  some_mid p (z ∷ xs) x ys = ap (λ (t : Bool). p z || t) (some_mid p xs x ys) ∙ or_swap (p z) (p x) (some_of p (xs ++ ys))

  pub tally_mid : (p : A → Bool) (xs : List A) (x : A) (ys : List A) → tally p (xs ++ x ∷ ys) ≡ cond (p x) 1 0 + tally p (xs ++ ys)
  tally_mid p [] x ys = refl
  tally_mid p (z ∷ xs) x ys = rw (tally_mid p xs x ys) (omega arith)

  pub length_mid : (xs : List A) (x : A) (ys : List A) → length (xs ++ x ∷ ys) ≡ suc (length (xs ++ ys))
  length_mid [] x ys = refl
  length_mid (z ∷ xs) x ys = ap suc (length_mid xs x ys)

  pub some_none : (p : A → Bool) (xs : List A) → some_of p xs ≡ false → every (λ x. not (p x)) xs ≡ true
  some_none p [] h = refl
  some_none p (x ∷ xs) h = by_cases (p x) (λ q. absurd (true≢false (rw q at h))) (λ q. rw q (some_none p xs (rw q at h)))

pub every_map : {A B : Type 0} (p : B → Bool) (f : A → B) (l : List A) → every p (map f l) ≡ every (λ a. p (f a)) l
every_map p f [] = refl
every_map p f (x ∷ l) = ap (λ (t : Bool). p (f x) && t) (every_map p f l)

-- a list in three: what stands before an element, the element, and the rest
pub record Split {A : Type 0} (l : List A) : Type 0 where
  pub before : List A
  pub here : A
  pub behind : List A
  pub is : l ≡ before ++ here ∷ behind

module _ {A : Type 0} where
  abbrev pub split_cons : (x : A) (l : List A) → Split l → Split (x ∷ l)
  split_cons x l s = record { before = x ∷ s.before; here = s.here; behind = s.behind; is = ap (λ (m : List A). x ∷ m) s.is }

  pub some_split : (p : A → Bool) (l : List A) → some_of p l ≡ true → (s : Split l) × (p s.here ≡ true)
  some_split p [] h = absurd (false≢true h)
  some_split p (x ∷ l) h =
      by_cases (p x)
      (λ q. (record { before = []; here = x; behind = l; is = refl }, q))
      (λ q. let r : (s : Split l) × (p s.here ≡ true) = some_split p l (rw q at h) in (split_cons x l r.0, r.1))

  pub some_at : (p : A → Bool) (xs : List A) (x : A) (ys : List A) → p x ≡ true → some_of p (xs ++ x ∷ ys) ≡ true
  some_at p xs x ys h = some_mid p xs x ys ∙ rw h

  pub every_at : (p : A → Bool) (xs : List A) (x : A) (ys : List A) → every p (xs ++ x ∷ ys) ≡ true → p x ≡ true
  every_at p xs x ys h = and_left (p x) (every p (xs ++ ys)) (sym (every_mid p xs x ys) ∙ h)

  pub tally_split : (p : A → Bool) (l : List A) → 0 < tally p l → (s : Split l) × (p s.here ≡ true)
  tally_split p [] h = absurd (omega arith)
  tally_split p (x ∷ l) h =
      by_cases (p x)
      (λ q. (record { before = []; here = x; behind = l; is = refl }, q))
      (λ q. let h' : 0 < 0 + tally p l = rw q at h in
      let r : (s : Split l) × (p s.here ≡ true) = tally_split p l (omega arith) in (split_cons x l r.0, r.1))

pub some_map : {A B : Type 0} (p : B → Bool) (f : A → B) (l : List A) → some_of p (map f l) ≡ some_of (λ a. p (f a)) l
some_map p f [] = refl
some_map p f (x ∷ l) = ap (λ (t : Bool). p (f x) || t) (some_map p f l)

abbrev pub split_map : {A B : Type 0} (f : A → B) (l : List A) → Split l → Split (map f l)
split_map f l s =
    record {
      before = map f s.before;
      here = f s.here;
      behind = map f s.behind;
      is = ap (map f) s.is ∙ map-append f s.before (s.here ∷ s.behind);
    }

pub tally_map : {A B : Type 0} (p : B → Bool) (f : A → B) (l : List A) → tally p (map f l) ≡ tally (λ a. p (f a)) l
tally_map p f [] = refl
tally_map p f (x ∷ l) = ap (λ (n : ℕ). cond (p (f x)) 1 0 + n) (tally_map p f l)
