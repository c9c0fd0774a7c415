-- Where records start: one by one, the first of them and those behind, and seen from another place.
-- Assumes nothing.
use Prim.Native.Nat.{ℕ, zero, suc, ◌+◌, ◌-◌, ◌≤◌, ◌<◌}
use native.Mathlib.Omega.{arith}
use mathlib.Core.Bool.{true, false}
use mathlib.Core.Path.{◌≡◌, refl, sym, ◌∙◌, ap}
use mathlib.Core.List.{List, [], ◌∷◌, ◌++◌, map, map-append}
use lib.Dec.{eqb}
use lib.ListN.{length, take, drop, length-map}
use lib.Seq.{take_at, drop_at}
use borrow.Author.Tests.{eq-eqb, ne_eqb, eqb-true, eqb-false}
use Rattle.be.proofs.Bools.{by_cases}
use Rattle.records.specs.Records.{start, places, read_records, tiled, stands}

module _ (size : ℕ → ℕ) where
  -- the first record, and those behind it
  pub start_on : (n at : ℕ) → 0 < n → start size n at ≡ start size (n - 1) (at + size at)
  unfolding start
  start_on zero at h = absurd (omega arith)
  start_on (suc n) at h = let q : suc n - 1 ≡ n = omega arith in rw q

  pub places_on : (n at : ℕ) → 0 < n → places size n at ≡ at ∷ places size (n - 1) (at + size at)
  unfolding places
  places_on zero at h = absurd (omega arith)
  places_on (suc n) at h = let q : suc n - 1 ≡ n = omega arith in rw q

  -- none left
  pub start_done : (n at : ℕ) → n ≤ 0 → start size n at ≡ at
  unfolding start
  start_done zero at h = refl
  start_done (suc n) at h = absurd (omega arith)

  pub places_done : (n at : ℕ) → n ≤ 0 → places size n at ≡ []
  unfolding places
  places_done zero at h = refl
  places_done (suc n) at h = absurd (omega arith)

  -- lengths only add up
  pub start_above : (n at : ℕ) → at ≤ start size n at
  unfolding start
  start_above zero at = omega arith
  start_above (suc n) at = omega (arith, start_above n (at + size at))

  pub start_fits : (n at : ℕ) → 0 < n → at + size at ≤ start size n at
  start_fits n at h = omega (arith, start_on n at h, start_above (n - 1) (at + size at))

  -- j records, and n more
  pub start_add : (j n at : ℕ) → start size (j + n) at ≡ start size n (start size j at)
  unfolding start
  start_add zero n at = let q : 0 + n ≡ n = omega arith in rw q
  start_add (suc j) n at = let q : suc j + n ≡ suc (j + n) = omega arith in rw q (start_add j n (at + size at))

  pub places_add : (j n at : ℕ) → places size (j + n) at ≡ places size j at ++ places size n (start size j at)
  unfolding start places
  places_add zero n at = let q : 0 + n ≡ n = omega arith in rw q
  places_add (suc j) n at =
      let q : suc j + n ≡ suc (j + n) = omega arith in rw q (ap (λ (l : List ℕ). at ∷ l) (places_add j n (at + size at)))

  -- one more at the end
  pub start_more : (j at : ℕ) → start size (j + 1) at ≡ start size j at + size (start size j at)
  unfolding start
  start_more j at = start_add j 1 at

  pub places_more : (j at : ℕ) → places size (j + 1) at ≡ places size j at ++ (start size j at ∷ [])
  unfolding places
  places_more j at = places_add j 1 at

  module _ (j k at : ℕ) (h : j ≤ k) where
    both : j + (k - j) ≡ k
    both = omega arith

    -- the first j of k, and those behind them
    pub start_split : start size k at ≡ start size (k - j) (start size j at)
    start_split = ap (λ (n : ℕ). start size n at) (sym both) ∙ start_add j (k - j) at

    pub places_split : places size k at ≡ places size j at ++ places size (k - j) (start size j at)
    places_split = ap (λ (n : ℕ). places size n at) (sym both) ∙ places_add j (k - j) at

    pub start_fewer : start size j at ≤ start size k at
    start_fewer = omega (arith, start_split, start_above (k - j) (start size j at))

  pub length_places : (n at : ℕ) → length (places size n at) ≡ n
  unfolding places
  length_places zero at = refl
  length_places (suc n) at = ap suc (length_places n (at + size at))

  -- ---- the records themselves

  module _ {A : Type 0} (read : ℕ → A) where
    pub length_records : (n at : ℕ) → length (read_records size read n at) ≡ n
    length_records n at = length-map (places size n at) read ∙ length_places n at

    module _ (j k at : ℕ) (h : j ≤ k) where
      pub records_split : read_records size read k at ≡ read_records size read j at ++ read_records size read (k - j) (start size j at)
      records_split = ap (map read) (places_split j k at h) ∙ map-append read (places size j at) (places size (k - j) (start size j at))

      pub records_take : take j (read_records size read k at) ≡ read_records size read j at
      records_take = ap (take j) records_split ∙ take_at (read_records size read j at) (read_records size read (k - j) (start size j at)) j (length_records j at)

      pub records_drop : drop j (read_records size read k at) ≡ read_records size read (k - j) (start size j at)
      records_drop = ap (drop j) records_split ∙ drop_at (read_records size read j at) (read_records size read (k - j) (start size j at)) j (length_records j at)

  -- ---- TILE

  -- a record that reaches past the end
  pub tiled_over : (n at end : ℕ) → 0 < n → end < at + size at → tiled size end n at ≡ false
  tiled_over n at end h k = ne_eqb (start size n at) end (λ q. omega (arith, start_fits n at h))

  -- ---- the places of a walk

  pub stands_first : (n at : ℕ) → stands size n at at ≡ true
  unfolding stands start places
  stands_first zero at = eq-eqb at at refl
  stands_first (suc n) at = rw (eq-eqb at at refl)

  module _ (place : ℕ) where
    pub stands_here : (n at : ℕ) → 0 < n → place ≡ at → stands size n at place ≡ true
    unfolding stands
    stands_here n at h q = rw (places_on n at h, eq-eqb place at q)

    pub stands_on : (n at : ℕ) → 0 < n → (place ≡ at → ⊥) → stands size n at place ≡ stands size (n - 1) (at + size at) place
    unfolding stands
    stands_on n at h q = rw (places_on n at h, start_on n at h, ne_eqb place at q)

    pub stands_done : (n at : ℕ) → n ≤ 0 → stands size n at place ≡ eqb place at
    unfolding stands
    stands_done n at h = rw (places_done n at h, start_done n at h)

    -- a place behind the first record
    pub stands_later : (n at : ℕ) → stands size n (at + size at) place ≡ true → stands size (suc n) at place ≡ true
    unfolding stands start places
    stands_later n at h = by_cases (eqb place at) (λ q. rw q) (λ q. rw q h)

    -- it is the start of one of them, or the start behind the last
    pub stands_nth : (n at : ℕ) → stands size n at place ≡ true → (j : ℕ) × ((j ≤ n) × (place ≡ start size j at))
    unfolding stands start places
    stands_nth zero at h = (0, (omega arith, eqb-true place at h))
    stands_nth (suc n) at h =
        by_cases (eqb place at) (λ q. (0, (omega arith, eqb-true place at q)))
        (λ q. let r = stands_nth n (at + size at) (rw q at h) in (suc r.0, (omega (arith, r.1.0), r.1.1)))

    module _ (n at : ℕ) (h : stands size n at place ≡ true) where
      pub stands_within : place ≤ start size n at
      stands_within = let r = stands_nth n at h in omega (arith, r.1.1, start_fewer r.0 n at r.1.0)

      -- a place that is not the end is a record's start
      pub stands_fits : (place ≡ start size n at → ⊥) → place + size place ≤ start size n at
      stands_fits d =
          let r = stands_nth n at h in
          let e : place ≡ start size r.0 at = r.1.1 in
          let l : r.0 < n = less r.0 n r.1.0 (λ q. d (e ∙ ap (λ (j : ℕ). start size j at) q)) in
          let s : place + size place ≡ start size (r.0 + 1) at = rw (← e) at (sym (start_more r.0 at)) in
          omega (arith, start_fewer (r.0 + 1) n at (omega arith))
        where
          less : (a b : ℕ) → a ≤ b → (a ≡ b → ⊥) → a < b
          less a b l d = by_cases (eqb a b) (λ q. absurd (d (eqb-true a b q))) (λ q. omega (arith, eqb-false a b q))
