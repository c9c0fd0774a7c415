-- Insert and removal up to the search: a refusal leaves every byte; without one the block is accepted, and what an insert asks for is legal.
-- Assumes nothing.
use Prim.Native.Nat.{ℕ}
use native.Mathlib.Omega.{arith}
use mathlib.Core.Bool.{Bool, true, false, not, ◌&&◌}
use mathlib.Core.Path.{◌≡◌, refl, sym, ◌∙◌, ap₂}
use mathlib.Core.List.{List}
use borrow.Author.Tests.{eq-eqb, ne_eqb}
use Rattle.refusal.specs.Refusal.{EXISTS, NOROOM}
use Rattle.be.proofs.Bools.{by_cases}
use Rattle.be.specs.Codes.{◌unless◌then◌}
use Rattle.edition.specs.declared.Edition.{Edition}
use Rattle.name.specs.Name.{legal_name, fixed_name}
use Rattle.dir.specs.Target.{legal_in}
use Rattle.dir_block_rules.specs.Verdict.{verdict, own_of}
use Rattle.dir.specs.declared.Target.{Target}
use Rattle.dir_block_rules.specs.Lookup.{sought}
use Rattle.dir_block_rules.specs.Room.{has_room}
use Rattle.dir_block_rules.specs.Change.{insert_code, insert_bytes, remove_code, remove_bytes}
use Rattle.dir_block_laws.proofs.EditAnswers.{remove_refused}
use Rattle.dir_block_edit.specs.Refusal.{asked_of}

-- ---- the request

pub by_request : (r : ℕ) (legal fixed : Bool) → legal ≡ false → asked_of legal fixed r ≡ 11
unfolding asked_of
by_request r legal fixed q = rw q

pub by_fixed : (r : ℕ) (legal fixed : Bool) → legal ≡ true → fixed ≡ true → asked_of legal fixed r ≡ 12
unfolding asked_of
by_fixed r legal fixed q w = rw (q, w)

pub by_rest : (r : ℕ) (legal fixed : Bool) → legal ≡ true → fixed ≡ false → asked_of legal fixed r ≡ r
unfolding asked_of
by_rest r legal fixed q w = rw (q, w)

-- what is refused without a search is refused so whatever the search finds
pub refused : (r : ℕ) (legal fixed : Bool) → (asked_of legal fixed 0 ≡ 0 → ⊥) → asked_of legal fixed r ≡ asked_of legal fixed 0
unfolding asked_of
refused r legal fixed n =
    by_cases legal
    (λ q. by_cases fixed (λ w. rw (q, w)) (λ w. absurd (n (rw (q, w)))))
    (λ q. rw q)

pub record Clear (legal fixed : Bool) : Type 0 where
  pub asked : legal ≡ true
  pub free : fixed ≡ false

pub clear : (legal fixed : Bool) → asked_of legal fixed 0 ≡ 0 → Clear legal fixed
unfolding asked_of
clear legal fixed h =
    by_cases legal
    (λ q. by_cases fixed
    (λ w. let k : ◌≡◌ {A = ℕ} 12 0 = rw (q, w) at h in absurd (omega arith))
    (λ w. record { asked = q; free = w }))
    (λ q. let k : ◌≡◌ {A = ℕ} 11 0 = rw q at h in absurd (omega arith))

-- ---- the two calls

module _ (e : Edition) (b n : List ℕ) (i : Target) where
  pub insert_tested : (t : ℕ) → t ≡ verdict e b → (t ≡ 0 → ⊥) → (t ≡ insert_code e b n i) × (b ≡ insert_bytes e b n i)
  unfolding insert_bytes insert_code
  insert_tested t q z =
      let s : insert_code e b n i ≡ t = rw (ne_eqb (verdict e b) 0 (λ y. z (q ∙ y))) (sym q) in
      (sym s, sym (rw (ne_eqb (insert_code e b n i) 0 (λ y. z (sym s ∙ y)))))

  module _ (t : ℕ) (tq : t ≡ verdict e b) (tz : t ≡ 0) where
    insert_chain : insert_code e b n i ≡ asked_of (legal_name e n && legal_in e (own_of e b) i) (fixed_name n) (EXISTS unless not (sought e b n).hit then NOROOM unless has_room e b n then 0)
    unfolding insert_code asked_of
    insert_chain = rw (eq-eqb (verdict e b) 0 (sym tq ∙ tz)) refl

    pub insert_refused : (r : ℕ) (l k : Bool) → l ≡ legal_name e n → k ≡ legal_in e (own_of e b) i → r ≡ asked_of (l && k) (fixed_name n) 0 → (r ≡ 0 → ⊥)
        → (r ≡ insert_code e b n i) × (b ≡ insert_bytes e b n i)
    unfolding insert_bytes
    insert_refused r l k v w q z =
        let q' : r ≡ asked_of (legal_name e n && legal_in e (own_of e b) i) (fixed_name n) 0 =
        q ∙ ap₂ (λ (x y : Bool). asked_of (x && y) (fixed_name n) 0) v w in
        let s : insert_code e b n i ≡ r = insert_chain ∙ refused _ _ _ (λ y. z (q' ∙ y)) ∙ sym q' in
        (sym s, sym (rw (ne_eqb (insert_code e b n i) 0 (λ y. z (sym s ∙ y)))))

module _ (e : Edition) (b n : List ℕ) where
  pub remove_tested : (t : ℕ) → t ≡ verdict e b → (t ≡ 0 → ⊥) → (t ≡ remove_code e b n) × (b ≡ remove_bytes e b n)
  unfolding remove_code
  remove_tested t q z = remove_refused e b n t z (rw (ne_eqb (verdict e b) 0 (λ y. z (q ∙ y))) (sym q))
