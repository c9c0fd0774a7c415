-- What the passes over the records answer, in the definitions' terms.
-- Assumes nothing.
use Prim.Native.Nat.{ℕ, ◌/◌, ◌≤◌, ◌<◌, min}
use native.Mathlib.Omega.{arith}
use mathlib.Core.Bool.{Bool, true, false, not, ◌&&◌, ◌||◌}
use mathlib.Core.Path.{◌≡◌, refl, sym, ◌∙◌, ap}
use mathlib.Core.List.{List, [], ◌∷◌}
use lib.Dec.{leb}
use borrow.Author.Tests.{le-leb, lt-leb, leb-true, leb-false}
use Rattle.be.specs.Lists.{every}
use Rattle.edition.specs.declared.Edition.{Edition}
use Rattle.name.specs.Name.{hash_of}
use Rattle.dir_block_rules.specs.Record.{Rec, whole, apart, is_gap, entries, name}
use Rattle.dir_block_rules.specs.Verdict.{name_ok, number_ok}
use Rattle.be.proofs.Bools.{by_cases}
use Rattle.dir_block_rules.proofs.PlainTests.{every_besides}
use Rattle.dir_block_test.specs.Passes.{no_fault, tile_from, fault, worst}

-- TILE
apart_from : Bool → List Rec → Bool
apart_from g [] = true
apart_from g (r ∷ rs) = not (g && is_gap r) && apart_from (is_gap r) rs

apart_is : (rs : List Rec) → apart rs ≡ apart_from false rs
unfolding apart apart_from
apart_is [] = refl
apart_is (r ∷ []) = refl
apart_is (r ∷ s ∷ rs) = ap (λ (t : Bool). not (is_gap r && is_gap s) && t) (apart_is (s ∷ rs))

four : (a b c d : Bool) → ((a && b) && (c && d)) ≡ ((a && c) && (b && d))
four true true c d = refl
four true false true d = refl
four true false false d = refl
four false b c d = refl

tile_split : (e : Edition) (g : Bool) (rs : List Rec) → tile_from e g rs ≡ (every (whole e) rs && apart_from g rs)
unfolding tile_from apart_from
tile_split e g [] = refl
tile_split e g (r ∷ rs) =
    ap (λ (t : Bool). (whole e r && not (g && is_gap r)) && t) (tile_split e (is_gap r) rs)
    ∙ four (whole e r) (not (g && is_gap r)) (every (whole e) rs) (apart_from (is_gap r) rs)

pub tile_is : (e : Edition) (rs : List Rec) → tile_from e false rs ≡ (every (whole e) rs && apart rs)
tile_is e rs = tile_split e false rs ∙ ap (λ (t : Bool). every (whole e) rs && t) (sym (apart_is rs))

-- names, numbers, slots
min_leb : (m a b : ℕ) → leb m (min a b) ≡ (leb m a && leb m b)
min_leb m a b =
    by_cases (leb m a)
    (λ p. let x : m ≤ a = leb-true m a p in
    by_cases (leb m b)
    (λ q. let y : m ≤ b = leb-true m b q in rw (p, q) (le-leb m (min a b) (omega arith)))
    (λ q. let y : b < m = leb-false m b q in rw (p, q) (lt-leb m (min a b) (omega arith))))
    (λ p. let x : a < m = leb-false m a p in rw p (lt-leb m (min a b) (omega arith)))

every_and : {A : Type 0} (p q : A → Bool) (rs : List A) → every (λ r. p r && q r) rs ≡ (every p rs && every q rs)
every_and p q [] = refl
every_and p q (r ∷ rs) = ap (λ (t : Bool). (p r && q r) && t) (every_and p q rs) ∙ four (p r) (q r) (every p rs) (every q rs)

every_same : {A : Type 0} (p q : A → Bool) → ((r : A) → p r ≡ q r) → (rs : List A) → every p rs ≡ every q rs
every_same p q h [] = refl
every_same p q h (r ∷ rs) = rw (h r, every_same p q h rs)

module _ (e : Edition) (own : ℕ) (ss : ℕ → ℕ → Bool) where
  worst_leb : (m : ℕ) → m ≤ 9 → (rs : List Rec) → leb m (worst e own ss rs) ≡ every (λ r. leb m (fault e own ss r)) rs
  unfolding worst
  worst_leb m h [] = le-leb m no_fault (omega arith)
  worst_leb m h (r ∷ rs) = min_leb m (fault e own ss r) (worst e own ss rs) ∙ ap (λ (t : Bool). leb m (fault e own ss r) && t) (worst_leb m h rs)

  abbrev pub slot_ok : Rec → Bool
  slot_ok r = ss (r.off / 8) (hash_of e (name r))

  fault_7 : (r : Rec) → leb 7 (fault e own ss r) ≡ (is_gap r || name_ok e r)
  unfolding fault
  fault_7 r =
      by_cases (is_gap r) (λ g. rw g) (λ g. by_cases (name_ok e r)
      (λ a. by_cases (number_ok e own r) (λ b. by_cases (slot_ok r) (λ c. rw (g, a, b, c)) (λ c. rw (g, a, b, c))) (λ b. rw (g, a, b)))
      (λ a. rw (g, a)))

  fault_8 : (r : Rec) → leb 8 (fault e own ss r) ≡ (is_gap r || (name_ok e r && number_ok e own r))
  unfolding fault
  fault_8 r =
      by_cases (is_gap r) (λ g. rw g) (λ g. by_cases (name_ok e r)
      (λ a. by_cases (number_ok e own r) (λ b. by_cases (slot_ok r) (λ c. rw (g, a, b, c)) (λ c. rw (g, a, b, c))) (λ b. rw (g, a, b)))
      (λ a. rw (g, a)))

  fault_9 : (r : Rec) → leb 9 (fault e own ss r) ≡ (is_gap r || (name_ok e r && number_ok e own r && slot_ok r))
  unfolding fault
  fault_9 r =
      by_cases (is_gap r) (λ g. rw g) (λ g. by_cases (name_ok e r)
      (λ a. by_cases (number_ok e own r) (λ b. by_cases (slot_ok r) (λ c. rw (g, a, b, c)) (λ c. rw (g, a, b, c))) (λ b. rw (g, a, b)))
      (λ a. rw (g, a)))

  module _ (rs : List Rec) where
    pub worst_7 : leb 7 (worst e own ss rs) ≡ every (name_ok e) (entries rs)
    worst_7 =
        worst_leb 7 (omega arith) rs ∙ every_same (λ r. leb 7 (fault e own ss r)) (λ r. is_gap r || name_ok e r) fault_7 rs
        ∙ every_besides is_gap (name_ok e) rs

    pub worst_8 : leb 8 (worst e own ss rs) ≡ (every (name_ok e) (entries rs) && every (number_ok e own) (entries rs))
    worst_8 =
        worst_leb 8 (omega arith) rs ∙ every_same (λ r. leb 8 (fault e own ss r)) (λ r. is_gap r || (name_ok e r && number_ok e own r)) fault_8 rs
        ∙ every_besides is_gap (λ r. name_ok e r && number_ok e own r) rs ∙ every_and (name_ok e) (number_ok e own) (entries rs)

    pub worst_9 : leb 9 (worst e own ss rs) ≡ (every (name_ok e) (entries rs) && every (number_ok e own) (entries rs) && every slot_ok (entries rs))
    worst_9 =
        worst_leb 9 (omega arith) rs ∙ every_same (λ r. leb 9 (fault e own ss r)) (λ r. is_gap r || (name_ok e r && number_ok e own r && slot_ok r)) fault_9 rs
        ∙ every_besides is_gap (λ r. name_ok e r && number_ok e own r && slot_ok r) rs
        ∙ every_and (λ r. name_ok e r && number_ok e own r) slot_ok (entries rs)
        ∙ ap (λ (t : Bool). t && every slot_ok (entries rs)) (every_and (name_ok e) (number_ok e own) (entries rs))
