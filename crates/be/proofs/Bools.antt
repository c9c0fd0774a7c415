-- Tests as facts: what a test that passes shows, over Bools and over the elements of a list.
-- Assumes nothing.
use mathlib.Core.Bool.{Bool, true, false, ◌&&◌, ◌||◌, true≢false, false≢true}
use mathlib.Core.Path.{◌≡◌, refl, sym, ◌∙◌, ap}
use mathlib.Core.List.{List, [], ◌∷◌, ◌++◌}
use Rattle.be.specs.Lists.{every, keep}

pub and_left : (a b : Bool) → (a && b) ≡ true → a ≡ true
and_left true b h = refl
and_left false b h = h

pub and_right : (a b : Bool) → (a && b) ≡ true → b ≡ true
and_right true b h = h
and_right false b h = absurd (false≢true h)

pub and_both : (a b : Bool) → a ≡ true → b ≡ true → (a && b) ≡ true
and_both true b p q = q
and_both false b p q = p

pub not_left : (a b : Bool) → a ≡ false → (a && b) ≡ false
not_left a b h = rw h

pub not_right : (a b : Bool) → b ≡ false → (a && b) ≡ false
not_right true b h = h
not_right false b h = refl

pub and_true : (a : Bool) → (a && true) ≡ a
and_true true = refl
and_true false = refl

pub and_false : (a : Bool) → (a && false) ≡ false
and_false true = refl
and_false false = refl

pub and_swap : (a b c : Bool) → (a && (b && c)) ≡ (b && (a && c))
and_swap true b c = refl
and_swap false true c = refl
and_swap false false c = refl

pub or_left : (a b : Bool) → a ≡ true → (a || b) ≡ true
or_left a b h = rw h

pub or_right : (a b : Bool) → b ≡ true → (a || b) ≡ true
or_right true b h = refl
or_right false b h = h

-- one of two holds: where it is not the first, it is the second
pub or_second : (a b : Bool) → (a || b) ≡ true → a ≡ false → b ≡ true
or_second true b h q = absurd (true≢false q)
or_second false b h q = h

pub neither : (a b : Bool) → (a || b) ≡ false → (a ≡ false) × (b ≡ false)
neither true b h = absurd (true≢false h)
neither false b h = (refl, h)

pub or_true : (a : Bool) → (a || true) ≡ true
or_true true = refl
or_true false = refl

pub or_false : (a : Bool) → (a || false) ≡ a
or_false true = refl
or_false false = refl

pub or_cases : {P : Type 0} (a b : Bool) → (a || b) ≡ true → (a ≡ true → P) → (b ≡ true → P) → P
or_cases true b h f g = f refl
or_cases false b h f g = g h

pub clash : {a : Bool} → a ≡ true → a ≡ false → ⊥
clash p q = true≢false (sym p ∙ q)

-- a Bool by cases, with the equation
pub by_cases : {P : Type 0} (a : Bool) → (a ≡ true → P) → (a ≡ false → P) → P
by_cases true f g = f refl
by_cases false f g = g refl

module _ {A : Type 0} (p : A → Bool) where
  pub every_head : (x : A) (xs : List A) → every p (x ∷ xs) ≡ true → p x ≡ true
  every_head x xs h = and_left (p x) (every p xs) h

  pub every_tail : (x : A) (xs : List A) → every p (x ∷ xs) ≡ true → every p xs ≡ true
  every_tail x xs h = and_right (p x) (every p xs) h

  pub every_cons : (x : A) (xs : List A) → p x ≡ true → every p xs ≡ true → every p (x ∷ xs) ≡ true
  every_cons x xs h k = and_both (p x) (every p xs) h k

  pub every_append : (xs ys : List A) → every p (xs ++ ys) ≡ (every p xs && every p ys)
  every_append [] ys = refl
  every_append (x ∷ xs) ys = by_cases (p x) (λ h. rw h (every_append xs ys)) (λ h. rw h refl)

  pub every_keep : (q : A → Bool) (xs : List A) → every p xs ≡ true → every p (keep q xs) ≡ true
  every_keep q [] h = refl
  every_keep q (x ∷ xs) h =
      by_cases (q x)
      (λ y. rw y (every_cons x (keep q xs) (every_head x xs h) (every_keep q xs (every_tail x xs h))))
      (λ y. rw y (every_keep q xs (every_tail x xs h)))

  pub keep_append : (xs ys : List A) → keep p (xs ++ ys) ≡ keep p xs ++ keep p ys
  keep_append [] ys = refl
  keep_append (x ∷ xs) ys =
      by_cases (p x) (λ q. rw q (ap (λ (l : List A). x ∷ l) (keep_append xs ys))) (λ q. rw q (keep_append xs ys))
