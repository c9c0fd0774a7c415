-- The walk's steps: where a walk may stand, and what a step there answers.
-- Assumes nothing.
use Prim.Native.Nat.{ℕ, ◌+◌, ◌-◌, ◌≤◌}
use native.Mathlib.Omega.{arith}
use mathlib.Core.Bool.{Bool, true, false, cond}
use mathlib.Core.Path.{◌≡◌, sym, ◌∙◌, ap}
use mathlib.Core.List.{List}
use lib.Dec.{eqb}
use lib.ListN.{length, take, drop}
use borrow.Author.Tests.{eq-eqb, ne_eqb}
use Rattle.std.specs.Prelude.{Result, Ok, Err, Some, None}
use Rattle.std.specs.Result.{IsErrAnd}
use Rattle.refusal.specs.declared.Refusal.{Refusal}
use Rattle.refusal.specs.Refusal.{ASKED, number, numbered, outcome}
use Rattle.refusal.proofs.Passed.{passed_on, outcome_answered}
use Rattle.be.proofs.Bools.{by_cases}
use Rattle.be.specs.Bytes.{byte}
use Rattle.records.specs.Records.{stands}
use Rattle.records.proofs.Starts.{stands_fits}
use Rattle.edition.specs.declared.Edition.{Edition}
use Rattle.dinode.specs.Core.{attr_start, attr_fork}
use Rattle.dinode.specs.declared.Fork.{Fork}
use Rattle.attr_sf.specs.declared.Step.{Step}
use Rattle.attr_sf.specs.Fork.{fork_verdict, header, totsize, count, size_at, entry_at}
use Rattle.attr_sf.specs.Calls.{verdict, attr_at}
use Rattle.attr_sf.specs.Walk.{live_step, end_step, step_in, walked_in, walk_step, step_code, walked_next, walked_seen, step_next, step_seen, StepPromise}
use Rattle.attr_sf.specs.Inner.{fork_if}
use Rattle.attr_sf.proofs.ForkTests.{all_ends, end_inside}
use Rattle.attr_sf.proofs.InodeTests.{lent_fork, first_refused, if_passed, if_refused}

-- a step at an entry, as it is read
pub live_is : (s : ℕ) (f : List ℕ) (place : ℕ) {n v g z : ℕ} → n ≡ byte place f → v ≡ byte (place + 1) f → g ≡ (entry_at f place).flags → z ≡ place + size_at f place
    → ◌≡◌ {A = Step}
    (record {
      next = z;
      seen = Some (record { flags = g; name_start = s + (place + 3); name_len = n; value_start = s + (place + 3 + n); value_len = v });
    }) (live_step s f place)
unfolding live_step attr_at entry_at
live_is s f place a b d h = rw (a, b, d, h)

module _ (f : List ℕ) (place : ℕ) where
  -- as the code finds out
  pub stood : {g : List ℕ} {n from : ℕ} {r : Bool} → g ≡ f → from ≡ header → n ≡ count f → r ≡ stands (size_at g) n from place
      → r ≡ stands (size_at f) (count f) header place
  stood a b d h = rw (a, b, d) at h

  module _ {end : ℕ} (e : end ≡ totsize f) (h : stands (size_at f) (count f) header place ≡ true) where
    pub walk_fits : fork_verdict f ≡ 0 → (place ≡ end → ⊥) → place + size_at f place ≤ length f
    walk_fits z d =
        omega (arith, stands_fits (size_at f) place (count f) header h (λ q. d (q ∙ all_ends f z ∙ sym e)), all_ends f z, end_inside f z)

    module _ (s : ℕ) where
      pub walk_end : place ≡ end → Ok (record { next = place; seen = None }) ≡ walked_in s f place
      unfolding walked_in step_in end_step
      walk_end q = rw (← e, h, eq-eqb place end q)

      pub walk_live : {r : Step} → (place ≡ end → ⊥) → r ≡ live_step s f place → Ok r ≡ walked_in s f place
      unfolding walked_in step_in
      walk_live q r = rw (← e, h, ne_eqb place end q, r)

  pub walk_not : (s : ℕ) → stands (size_at f) (count f) header place ≡ false → Err ASKED ≡ walked_in s f place
  unfolding walked_in
  walk_not s h = rw h

module _ (e : Edition) (b : List ℕ) (place : ℕ) where
  pub walked_at : {F : Fork} {r : Result Step ℕ} → Ok F ≡ fork_if (verdict e b) e b → r ≡ walked_in F.start (take (length b - F.start) (drop F.start b)) place
      → r ≡ walk_step e b place
  unfolding walk_step walked_in step_code
  walked_at {F} h q =
      let z = if_passed e b (verdict e b) h in q ∙ rw (lent_fork e b F.start z.1, z.1, z.0)

  pub walked_refused : (r : Result Step Refusal) (x : Refusal) → IsErrAnd r (λ y. y ≡ x) → Err (number x) ≡ fork_if (verdict e b) e b
      → numbered r ≡ walk_step e b place
  unfolding walk_step step_code
  walked_refused r x i h =
      passed_on r x (step_in (attr_start e b) (attr_fork e b) place) i
      (first_refused x (cond (stands (size_at (attr_fork e b)) (count (attr_fork e b)) header place) 0 11) (if_refused e b x h))

  -- a step's values
  pub next_is : walked_next (walk_step e b place) ≡ step_next e b place
  unfolding walk_step step_next
  next_is = by_cases (eqb (step_code e b place) 0) (λ q. rw q) (λ q. rw q)

  pub seen_is : walked_seen (walk_step e b place) ≡ step_seen e b place
  unfolding walk_step step_seen
  seen_is = by_cases (eqb (step_code e b place) 0) (λ q. rw q) (λ q. rw q)

  -- what a step promises
  pub promised : (r : Result Step ℕ) → r ≡ walk_step e b place → StepPromise e b place r
  unfolding walk_step
  promised r h = (h, ap outcome h ∙ outcome_answered (step_code e b place) (step_in (attr_start e b) (attr_fork e b) place), ap walked_next h ∙ next_is, ap walked_seen h ∙ seen_is)
