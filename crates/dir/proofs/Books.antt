-- Two books that hold the same, and the first of a name in one.
-- Assumes nothing.
use Prim.Native.Nat.{ℕ, ◌+◌}
use native.Mathlib.Omega.{arith}
use mathlib.Core.Bool.{Bool, true, false, cond, false≢true, true≢false}
use mathlib.Core.Path.{◌≡◌, refl, sym, ◌∙◌, ap, ap₂, subst}
use mathlib.Core.List.{List, [], ◌∷◌, ◌++◌}
use lib.Dec.{eqb}
use borrow.Author.Tests.{eqb-true, eq-eqb}
use Rattle.be.specs.Lists.{some_of, tally, without_first, same}
use Rattle.be.proofs.Bools.{and_left, and_right, and_both, by_cases, clash}
use Rattle.be.proofs.Splits.{Split, split_cons, some_split, some_at, tally_split, tally_mid}
use Rattle.edition.specs.declared.Edition.{Edition}
use Rattle.name.specs.Name.{same_name}
use Rattle.name.proofs.Same.{same_refl, same_eq}
use Rattle.name.proofs.Once.{once, only_one}
use Rattle.dir.specs.declared.Target.{Target}
use Rattle.dir.specs.Target.{target, no_target, same_target}
use Rattle.dir.specs.Book.{Held, held, Book, named, holds, target_held, same_held, SameBook}

pub target_self : (t : Target) → same_target t t ≡ true
target_self t = and_both (eqb t.inode t.inode) (eqb t.kind t.kind) (eq-eqb t.inode t.inode refl) (eq-eqb t.kind t.kind refl)

pub target_eq : (s t : Target) → same_target s t ≡ true → s ≡ t
target_eq s t h =
    ap₂ (λ (i k : ℕ). target i k) (eqb-true s.inode t.inode (and_left (eqb s.inode t.inode) (eqb s.kind t.kind) h))
    (eqb-true s.kind t.kind (and_right (eqb s.inode t.inode) (eqb s.kind t.kind) h))

held_self : (h : Held) → same_held h h ≡ true
held_self h = and_both (same h.name h.name) (same_target h.target h.target) (same_refl h.name) (target_self h.target)

-- what one book holds, the other holds
pub in_other : (j k : Book) → SameBook j k → (s : Split j) → (t : Split k) × (t.here.name ≡ s.here.name) × (t.here.target ≡ s.here.target)
unfolding SameBook
in_other j k m s =
    let h : Held = s.here in
    let c : tally (same_held h) j ≡ 1 + tally (same_held h) (s.before ++ s.behind) =
    ap (tally (same_held h)) s.is ∙ tally_mid (same_held h) s.before h s.behind ∙ rw (held_self h) in
    let t : (t : Split k) × (same_held h t.here ≡ true) = tally_split (same_held h) k (omega (arith, c, m h)) in
    let n : Bool = same h.name t.0.here.name in
    let i : Bool = same_target h.target t.0.here.target in
    (t.0, sym (same_eq h.name t.0.here.name (and_left n i t.1)), sym (target_eq h.target t.0.here.target (and_right n i t.1)))

pub book_sym : (j k : Book) → SameBook j k → SameBook k j
unfolding SameBook
book_sym j k m = λ h. sym (m h)

holds_true : (e : Edition) (n : List ℕ) (j k : Book) → SameBook j k → holds e n j ≡ true → holds e n k ≡ true
holds_true e n j k m h =
    let s : (s : Split j) × (named e n s.here ≡ true) = some_split (named e n) j h in
    let t : (t : Split k) × (t.here.name ≡ s.0.here.name) × (t.here.target ≡ s.0.here.target) = in_other j k m s.0 in
    ap (some_of (named e n)) t.0.is ∙ some_at (named e n) t.0.before t.0.here t.0.behind (ap (same_name e n) t.1 ∙ s.1)

pub holds_same : (e : Edition) (n : List ℕ) (j k : Book) → SameBook j k → holds e n j ≡ holds e n k
holds_same e n j k m =
    by_cases (holds e n j)
    (λ q. q ∙ sym (holds_true e n j k m q))
    (λ q. by_cases (holds e n k) (λ y. absurd (clash (holds_true e n k j (book_sym j k m) y) q)) (λ y. q ∙ sym y))

-- the first of that name in a book
pub record FirstNamed (e : Edition) (n : List ℕ) (k : Book) : Type 0 where
  pub split : Split k
  pub is_named : named e n split.here ≡ true
  pub target_is : target_held e n k ≡ split.here.target
  pub without : (p : Held → Bool) → cond (p split.here) 1 0 + tally p (without_first (named e n) k) ≡ tally p k

pub first_named : (e : Edition) (n : List ℕ) (k : Book) → holds e n k ≡ true → FirstNamed e n k
unfolding target_held
first_named e n [] h = absurd (false≢true h)
first_named e n (x ∷ k) h =
    by_cases (named e n x)
    (λ q. record { split = record { before = []; here = x; behind = k; is = refl }; is_named = q; target_is = rw q refl; without = λ p. rw q refl })
    (λ q. let r : FirstNamed e n k = first_named e n k (rw q at h) in
    record { split = split_cons x k r.split; is_named = r.is_named; target_is = rw q r.target_is; without = λ p. rw q (omega (arith, r.without p)) })

-- a name that is not held finds nothing
pub target_none : (e : Edition) (n : List ℕ) (k : Book) → holds e n k ≡ false → target_held e n k ≡ no_target
unfolding target_held
target_none e n [] h = refl
target_none e n (x ∷ k) h = by_cases (named e n x) (λ q. absurd (true≢false (rw q at h))) (λ q. rw q (target_none e n k (rw q at h)))

-- each name is held once
abbrev pub once_held : Edition → Book → Bool
once_held e k = once e (λ h. h.name) k

module _ (e : Edition) (n : List ℕ) where
  -- two books that hold the same, one of them each name once: the name finds the same in both
  module _ (j k : Book) (m : SameBook j k) (single : once_held e j ≡ true) where
    pub first_same : (s : Split j) → named e n s.here ≡ true → (f : FirstNamed e n k) → f.split.here ≡ s.here
    first_same s q f =
        let t : (t : Split j) × (t.here.name ≡ f.split.here.name) × (t.here.target ≡ f.split.here.target) = in_other k j (book_sym j k m) f.split in
        let h : t.0.here ≡ f.split.here = ap₂ (λ (a : List ℕ) (b : Target). held a b) t.1 t.2 in
        sym h ∙ only_one e (λ x. x.name) n j single t.0 s (subst (λ (x : Held). named e n x ≡ true) (sym h) f.is_named) q

    module _ (there : holds e n j ≡ true) where
      here : FirstNamed e n j
      here = first_named e n j there

      other : FirstNamed e n k
      other = first_named e n k (sym (holds_same e n j k m) ∙ there)

      one : other.split.here ≡ here.split.here
      one = first_same here.split here.is_named other

      pub target_same : target_held e n k ≡ target_held e n j
      target_same = other.target_is ∙ ap (λ (h : Held). h.target) one ∙ sym here.target_is

      pub without_same : SameBook (without_first (named e n) j) (without_first (named e n) k)
      unfolding SameBook
      without_same = λ h.
          let w : cond (same_held h here.split.here) 1 0 + tally (same_held h) (without_first (named e n) k) ≡ tally (same_held h) k =
          subst (λ (x : Held). cond (same_held h x) 1 0 + tally (same_held h) (without_first (named e n) k) ≡ tally (same_held h) k) one (other.without (same_held h)) in
          omega (arith, here.without (same_held h), m h)
