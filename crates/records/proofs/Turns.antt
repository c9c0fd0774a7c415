-- A loop over records: its invariant, and the laws for its start, a turn and its end.
-- Assumes nothing.
use Prim.Native.Nat.{ℕ, zero, suc, ◌+◌, ◌-◌, ◌≤◌, ◌<◌}
use native.Mathlib.Omega.{arith}
use mathlib.Core.Bool.{Bool, true, false, ◌&&◌}
use mathlib.Core.Path.{◌≡◌, refl, sym, ◌∙◌, ap}
use mathlib.Core.List.{[], ◌∷◌, ◌++◌}
use Rattle.be.specs.Lists.{every}
use Rattle.records.specs.Records.{start, places, read_records}
use Rattle.records.proofs.Starts.{start_on, places_on, places_done, start_above, start_fits, start_split, start_more, places_more, start_fewer}

-- ---- a loop that counts the records that are left

-- n records from a place on, of which some are left: they end where all of them do, and what is asked of all is asked of them
pub record Rest {A : Type 0} (g : ℕ → ℕ → A) (size : ℕ → ℕ) (n from left at : ℕ) : Type 0 where
  pub ends : start size n from ≡ start size left at
  pub whole : g n from ≡ g left at

pub rest_all : {A : Type 0} (g : ℕ → ℕ → A) (size : ℕ → ℕ) (n from : ℕ) → Rest g size n from n from
rest_all g size n from = record { ends = refl; whole = refl }

module _ {A : Type 0} {g : ℕ → ℕ → A} {size : ℕ → ℕ} {n from left at : ℕ} (v : Rest g size n from left at) where
  pub rest_stop : {r : A} → g left at ≡ r → r ≡ g n from
  rest_stop q = sym (v.whole ∙ q)

  pub rest_next : {s : ℕ} → 0 < left → s ≡ size at → g left at ≡ g (left - 1) (at + size at) → Rest g size n from (left - 1) (at + s)
  rest_next h e q = rw e (record { ends = v.ends ∙ start_on size left at h; whole = v.whole ∙ q })

  pub rest_within : at ≤ start size n from
  rest_within = omega (arith, v.ends, start_above size left at)

  -- the next record lies before the end of all
  pub rest_fits : 0 < left → at + size at ≤ start size n from
  rest_fits h = omega (arith, v.ends, start_fits size left at h)

-- ---- a test of each record, one record at a time

module _ {A : Type 0} (size : ℕ → ℕ) (read : ℕ → A) (p : A → Bool) where
  pub every_fails : (n at : ℕ) → 0 < n → p (read at) ≡ false → every p (read_records size read n at) ≡ false
  every_fails n at h q = rw (places_on size n at h, q)

  pub every_on : (n at : ℕ) → 0 < n → p (read at) ≡ true → every p (read_records size read n at) ≡ every p (read_records size read (n - 1) (at + size at))
  every_on n at h q = rw (places_on size n at h, q)

  -- the test so far, and that of one record more
  pub every_and : (a : Bool) (n at : ℕ) → 0 < n
      → (a && every p (read_records size read n at)) ≡ ((a && p (read at)) && every p (read_records size read (n - 1) (at + size at)))
  every_and true n at h = rw (places_on size n at h)
  every_and false n at h = refl

  pub every_done : (n at : ℕ) → n ≤ 0 → every p (read_records size read n at) ≡ true
  every_done n at h = rw (places_done size n at h)

  -- a test that each record before the end passes
  pub every_all : (end : ℕ) → ((at : ℕ) → at + size at ≤ end → p (read at) ≡ true) → (n at : ℕ) → start size n at ≤ end → every p (read_records size read n at) ≡ true
  unfolding start places
  every_all end t zero at h = refl
  every_all end t (suc n) at h = rw (t at (omega (arith, start_above size n (at + size at)))) (every_all end t n (at + size at) h)

-- ---- a loop that counts the records that are passed

-- i of the k records from `at` on are passed, and the next one starts at p; all of them lie before end
pub record Run (size : ℕ → ℕ) (end at k i p : ℕ) : Type 0 where
  pub upto : i ≤ k
  pub place : p ≡ start size i at
  pub lies : start size k at ≤ end

pub run_start : (size : ℕ → ℕ) (end at k : ℕ) → start size k at ≤ end → Run size end at k 0 at
unfolding start
run_start size end at k h = record { upto = omega arith; place = refl; lies = h }

module _ {size : ℕ → ℕ} {end at k i p : ℕ} (r : Run size end at k i p) where
  -- those that are left end where all of them do
  pub run_ends : start size k at ≡ start size (k - i) p
  run_ends = start_split size i k at r.upto ∙ ap (start size (k - i)) (sym r.place)

  pub run_inside : p ≤ end
  run_inside = omega (arith, r.place, r.lies, start_fewer size i k at r.upto)

  module _ (h : i < k) where
    module _ {s : ℕ} (q : s ≡ size p) where
      pub run_next : Run size end at k (i + 1) (p + s)
      run_next =
          let a : start size i at + size (start size i at) ≡ p + s = rw (← r.place, ← q) refl in
          record { upto = omega arith; place = sym (start_more size i at ∙ a); lies = r.lies }

      -- the places that are left: the next one, and the others
      pub run_left : places size (k - i) p ≡ p ∷ places size (k - (i + 1)) (p + s)
      run_left =
          let n : k - i - 1 ≡ k - (i + 1) = omega arith in
          rw (q, ← n) (places_on size (k - i) p (omega arith))

    -- the places that are passed, and the next one
    pub run_passed : places size (i + 1) at ≡ places size i at ++ (p ∷ [])
    run_passed = rw r.place (places_more size i at)
