-- Answers and their numbers: what a `?` passes on, and what `answered` says.
-- Assumes nothing.
use native.Mathlib.Omega.{arith}
use mathlib.Core.Path.{◌≡◌, refl, sym, ap, ◌∙◌}
use Rattle.std.specs.Prelude.{ℕ, Bool, true, false, eqb, Result, Ok, Err}
use Rattle.std.specs.Result.{IsErrAnd}
use borrow.Author.Tests.{eqb-true, ne_eqb}
use Rattle.refusal.specs.declared.Refusal.{Refusal}
use Rattle.refusal.specs.declared.Refusal.TheVariants.{Size, Magic, Kind, Span, Tile, Name, Number, Index, Best, Twice, Asked, Fixed, Absent, Exists, NoRoom}
use Rattle.refusal.specs.Refusal.{number, code, numbered, outcome, answered}

-- a refusal's number is never that of a call that is done
pub number_ne : (x : Refusal) → number x ≡ 0 → ⊥
number_ne Size h = omega (arith, h)
number_ne Magic h = omega (arith, h)
number_ne Kind h = omega (arith, h)
number_ne Span h = omega (arith, h)
number_ne Tile h = omega (arith, h)
number_ne Name h = omega (arith, h)
number_ne Number h = omega (arith, h)
number_ne Index h = omega (arith, h)
number_ne Best h = omega (arith, h)
number_ne Twice h = omega (arith, h)
number_ne Asked h = omega (arith, h)
number_ne Fixed h = omega (arith, h)
number_ne Absent h = omega (arith, h)
number_ne Exists h = omega (arith, h)
number_ne NoRoom h = omega (arith, h)

-- ---- what `?` returns

module _ {A : Type 0} where
  pub err_is : (r : Result A Refusal) (x : Refusal) → IsErrAnd r (λ y. y ≡ x) → r ≡ Err x
  err_is (Ok v) x h = absurd h
  err_is (Err y) x h = ap Err h

  pub code_is : (r : Result A Refusal) (x : Refusal) {n : ℕ} → IsErrAnd r (λ y. y ≡ x) → number x ≡ n → code r ≡ n
  code_is r x h e = ap code (err_is r x h) ∙ e

  pub numbered_is : (r : Result A Refusal) (x : Refusal) {n : ℕ} → IsErrAnd r (λ y. y ≡ x) → number x ≡ n → numbered r ≡ Err n
  numbered_is r x h e = ap numbered (err_is r x h) ∙ ap Err e

  -- ---- `answered`

  pub given : {n : ℕ} (v : A) → 0 ≡ n → Ok v ≡ answered n v
  given v h = rw (sym h) refl

  pub refused : {n : ℕ} (v : A) (x : Refusal) → number x ≡ n → Err n ≡ answered n v
  refused {n} v x h = rw (ne_eqb n 0 (λ q. number_ne x (h ∙ q))) refl

  -- the exit of a `?` in a call whose answer is `answered`
  pub passed_on : (r : Result A Refusal) (x : Refusal) {n : ℕ} (v : A) → IsErrAnd r (λ y. y ≡ x) → number x ≡ n → numbered r ≡ answered n v
  passed_on r x v h e = numbered_is r x h e ∙ refused v x e

  -- what an answer shows: its number, and what it gives
  pub outcome_answered : (n : ℕ) (v : A) → outcome (answered n v) ≡ n
  outcome_answered n v = go (eqb n 0) refl
    where
      go : (t : Bool) → eqb n 0 ≡ t → outcome (answered n v) ≡ n
      go true q = rw q (sym (eqb-true n 0 q))
      go false q = rw q refl

  pub outcome_numbered : (r : Result A Refusal) → outcome (numbered r) ≡ code r
  outcome_numbered (Ok x) = refl
  outcome_numbered (Err x) = refl

  pub code_answered : (r : Result A Refusal) (n : ℕ) (v : A) → numbered r ≡ answered n v → code r ≡ n
  code_answered r n v h = sym (outcome_numbered r) ∙ ap outcome h ∙ outcome_answered n v

  pub err_answered : {k n : ℕ} (v : A) → Err k ≡ answered n v → k ≡ n
  err_answered {k} {n} v h = ap outcome h ∙ outcome_answered n v

  pub ok_done : {x : A} {n : ℕ} (v : A) → Ok x ≡ answered n v → 0 ≡ n
  ok_done {x} {n} v h = ap outcome h ∙ outcome_answered n v

  -- what the given value is
  pub or_else : A → Result A ℕ → A
  or_else d (Ok x) = x
  or_else d (Err k) = d

  pub ok_given : {x : A} (n : ℕ) (v : A) → Ok x ≡ answered n v → x ≡ v
  unfolding or_else
  ok_given {x} n v h = ap (or_else x) (h ∙ ap (λ k. answered k v) (sym (ok_done v h)))
