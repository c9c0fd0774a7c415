-- Elements that bear names, each name once.
-- Assumes nothing.
use Prim.Native.Nat.{ℕ}
use mathlib.Core.Bool.{Bool, true, not, ◌&&◌}
use mathlib.Core.Path.{◌≡◌, refl, sym, ◌∙◌, ap₂, subst}
use mathlib.Core.List.{List, [], ◌∷◌, ◌++◌, map, head-eq_of_cons-eq, tail-eq_of_cons-eq}
use borrow.Author.Tests.{not-true}
use Rattle.be.specs.Lists.{some_of}
use Rattle.be.proofs.Bools.{and_left, and_right, clash}
use Rattle.be.proofs.Splits.{Split, some_at, some_map}
use Rattle.edition.specs.declared.Edition.{Edition}
use Rattle.name.specs.Name.{same_name}
use Rattle.name.proofs.Same.{same_name_sym, same_name_trans}

module _ {A : Type 0} (e : Edition) (name : A → List ℕ) where
  abbrev pub bears : List ℕ → A → Bool
  bears n x = same_name e n (name x)

  -- no name is borne twice
  abbrev pub once : List A → Bool
  once [] = true
  once (x ∷ xs) = not (some_of (bears (name x)) xs) && once xs

  module _ (n : List ℕ) where
    twice : (h : A) (xs : List A) (x : A) (ys : List A) → bears n h ≡ true → bears n x ≡ true → not (some_of (bears (name h)) (xs ++ x ∷ ys)) ≡ true → ⊥
    twice h xs x ys p q o =
        clash (some_at (bears (name h)) xs x ys (same_name_trans e (name h) n (name x) (same_name_sym e n (name h) p) q)) (not-true _ o)

    one : (xs : List A) (x : A) (ys us : List A) (u : A) (vs : List A) → once (xs ++ x ∷ ys) ≡ true → bears n x ≡ true → bears n u ≡ true
        → xs ++ x ∷ ys ≡ us ++ u ∷ vs → x ≡ u
    one [] x ys [] u vs o p q m = head-eq_of_cons-eq m
    one [] x ys (w ∷ us) u vs o p q m =
        absurd (twice x us u vs p q (subst (λ (l : List A). not (some_of (bears (name x)) l) ≡ true) (tail-eq_of_cons-eq m) (and_left (not (some_of (bears (name x)) ys)) (once ys) o)))
    one (z ∷ xs) x ys [] u vs o p q m =
        absurd (twice z xs x ys (subst (λ (h : A). bears n h ≡ true) (sym (head-eq_of_cons-eq m)) q) p (and_left (not (some_of (bears (name z)) (xs ++ x ∷ ys))) (once (xs ++ x ∷ ys)) o))
    one (z ∷ xs) x ys (w ∷ us) u vs o p q m =
        one xs x ys us u vs (and_right (not (some_of (bears (name z)) (xs ++ x ∷ ys))) (once (xs ++ x ∷ ys)) o) p q (tail-eq_of_cons-eq m)

    -- so two that bear the name are one
    pub only_one : (l : List A) → once l ≡ true → (s t : Split l) → bears n s.here ≡ true → bears n t.here ≡ true → s.here ≡ t.here
    only_one l o s t p q =
        one s.before s.here s.behind t.before t.here t.behind (subst (λ (m : List A). once m ≡ true) s.is o) p q (sym s.is ∙ t.is)

pub once_map : {A B : Type 0} (e : Edition) (name : B → List ℕ) (f : A → B) (l : List A) → once e name (map f l) ≡ once e (λ a. name (f a)) l
once_map e name f [] = refl
once_map e name f (x ∷ l) = ap₂ (λ (a b : Bool). not a && b) (some_map (bears e name (name (f x))) f l) (once_map e name f l)
