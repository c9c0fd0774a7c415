-- Entries that lie one after the other, one entry at a time.
-- Assumes nothing.
use Prim.Native.Nat.{ℕ, zero, suc, ◌+◌, ◌-◌, ◌≤◌, ◌<◌}
use native.Mathlib.Omega.{arith}
use mathlib.Core.Bool.{true, false, cond}
use mathlib.Core.Path.{◌≡◌, refl, ◌∙◌, ap}
use mathlib.Core.List.{List}
use lib.Dec.{eqb, ltb}
use lib.ListN.{length}
use borrow.Author.Tests.{eqb-true, lt-ltb, le-ltb, ltb-true, ltb-false}
use Rattle.std.specs.Prelude.{Option, Some, None, is_some}
use Rattle.be.specs.Lists.{some_of}
use Rattle.be.specs.Bytes.{byte}
use Rattle.be.proofs.Bools.{by_cases}
use Rattle.records.specs.Records.{start, places, tiled, stands}
use Rattle.records.proofs.Starts.{start_on, places_on, start_done, places_done, start_above, tiled_over, stands_first, stands_later, stands_within, stands_fits}
use Rattle.records.proofs.Turns.{Rest, rest_all, rest_stop, rest_next, rest_fits}
use Rattle.attr_sf.specs.Entry.{is_key, distinct}
use Rattle.attr_sf.specs.Fork.{header, size_at, entry_at, entries, seek}
use Rattle.attr_sf.specs.Inner.{place_before}

pub three : (f : List ℕ) (at : ℕ) → 3 ≤ size_at f at
unfolding size_at
three f at = omega arith

pub name_inside : (f : List ℕ) (at n : ℕ) → at + size_at f at ≤ n → at + 3 + byte at f ≤ n
unfolding size_at
name_inside f at n h = omega arith

pub value_inside : (f : List ℕ) (at n : ℕ) → at + size_at f at ≤ n → at + 3 + byte at f + byte (at + 1) f ≤ n
unfolding size_at
value_inside f at n h = omega arith

-- ---- TILE, one entry at a time

-- i of n entries are passed, the next one starts at `at`, and those that are left decide
pub record Left {A : Type 0} (g : ℕ → ℕ → A) (f : List ℕ) (n from i at : ℕ) : Type 0 where
  pub rest : Rest g (size_at f) n from (n - i) at

pub left_all : {A : Type 0} (g : ℕ → ℕ → A) (f : List ℕ) (n from : ℕ) → Left g f n from 0 from
left_all g f n from = let q : n - 0 ≡ n = omega arith in record { rest = rw q (rest_all g (size_at f) n from) }

module _ {A : Type 0} {g : ℕ → ℕ → A} {f : List ℕ} {n from i at : ℕ} (v : Left g f n from i at) where
  pub left_stop : {r : A} → g (n - i) at ≡ r → r ≡ g n from
  left_stop q = rest_stop v.rest q

  pub left_next : {p : ℕ} → i < n → p ≡ at + size_at f at → g (n - i) at ≡ g (n - i - 1) (at + size_at f at) → Left g f n from (i + 1) p
  left_next h e q = let k : n - (i + 1) ≡ n - i - 1 = omega arith in record { rest = rw (k, e) (rest_next v.rest (omega arith) refl q) }

-- the entries so far lie within the end
pub record Tiles (f : List ℕ) (end n i at : ℕ) : Type 0 where
  pub upto : at ≤ end
  pub rest : Left (tiled (size_at f) end) f n header i at

module _ {f : List ℕ} {end n i at : ℕ} (v : Tiles f end n i at) where
  module _ (h : i < n) where
    pub tiles_short : end - at < 3 → false ≡ tiled (size_at f) end n header
    tiles_short k = left_stop v.rest (tiled_over (size_at f) (n - i) at end (omega arith) (omega (arith, v.upto, three f at)))

    module _ {s : ℕ} (e : s ≡ size_at f at) where
      pub tiles_over : end - at < s → false ≡ tiled (size_at f) end n header
      tiles_over k = left_stop v.rest (tiled_over (size_at f) (n - i) at end (omega arith) (omega (arith, v.upto)))

      pub tiles_next : s ≤ end - at → Tiles f end n (i + 1) (at + s)
      tiles_next k =
          record {
            upto = omega (arith, v.upto);
            rest = left_next v.rest h (ap (λ (x : ℕ). at + x) e) (ap (λ (x : ℕ). eqb x end) (start_on (size_at f) (n - i) at (omega arith)));
          }

  pub tiles_done : n ≤ i → eqb at end ≡ tiled (size_at f) end n header
  tiles_done h = left_stop v.rest (ap (λ (x : ℕ). eqb x end) (start_done (size_at f) (n - i) at (omega arith)))

-- a loop over entries that tile: the next entry lies in the fork, and those behind it tile
module _ {A : Type 0} {g : ℕ → ℕ → A} (f : List ℕ) (end : ℕ) {n from i at : ℕ} (v : Left g f n from i at)
    (t : tiled (size_at f) end n from ≡ true) where
  module _ (h : i < n) where
    pub next_fits : end ≤ length f → at + size_at f at ≤ length f
    next_fits l = omega (arith, rest_fits v.rest (omega arith), eqb-true (start (size_at f) n from) end t)

    pub next_tiled : tiled (size_at f) end (n - i - 1) (at + size_at f at) ≡ true
    next_tiled = rw (← start_on (size_at f) (n - i) at (omega arith), ← v.rest.ends) t

-- ---- a place before the end

pub before_is : {p end q : ℕ} → Some p ≡ place_before end q → (p ≡ q) × (q < end)
before_is {p} {end} {q} h =
    by_cases (ltb q end)
    (λ k. let r : Some p ≡ Some q = rw k at h in (cc, ltb-true q end k))
    (λ k. absurd (let r : ◌≡◌ {A = Option ℕ} (Some p) None = rw k at h in cc))

pub before_not : {end q : ℕ} → None ≡ place_before end q → end ≤ q
before_not {end} {q} h =
    by_cases (ltb q end)
    (λ k. absurd (let r : ◌≡◌ {A = Option ℕ} None (Some q) = rw k at h in cc))
    (λ k. ltb-false q end k)

pub before_some : (end q : ℕ) → is_some (place_before end q) ≡ ltb q end
before_some end q = by_cases (ltb q end) (λ k. rw k) (λ k. rw k)

-- ---- TWICE and the search, one entry at a time

module _ (f : List ℕ) where
  pub distinct_fails : (n at : ℕ) → 0 < n
      → some_of (is_key (entry_at f at).name (entry_at f at).flags) (entries f (n - 1) (at + size_at f at)) ≡ true
      → distinct (entries f n at) ≡ false
  unfolding distinct
  distinct_fails n at h q = rw (places_on (size_at f) n at h, q)

  pub distinct_on : (n at : ℕ) → 0 < n
      → some_of (is_key (entry_at f at).name (entry_at f at).flags) (entries f (n - 1) (at + size_at f at)) ≡ false
      → distinct (entries f n at) ≡ distinct (entries f (n - 1) (at + size_at f at))
  unfolding distinct
  distinct_on n at h q = rw (places_on (size_at f) n at h, q)

  pub distinct_done : (n at : ℕ) → n ≤ 0 → distinct (entries f n at) ≡ true
  unfolding distinct
  distinct_done n at h = rw (places_done (size_at f) n at h)

  -- the search
  module _ (name : List ℕ) (flags : ℕ) where
    seek_step : (n at : ℕ) → 0 < n
        → seek f name flags n at ≡ cond (is_key name flags (entry_at f at)) at (seek f name flags (n - 1) (at + size_at f at))
    unfolding seek
    seek_step zero at h = absurd (omega arith)
    seek_step (suc n) at h = let q : suc n - 1 ≡ n = omega arith in rw q

    pub seek_hit : (n at : ℕ) → 0 < n → is_key name flags (entry_at f at) ≡ true → seek f name flags n at ≡ at
    seek_hit n at h q = seek_step n at h ∙ rw q

    pub seek_on : (n at : ℕ) → 0 < n → is_key name flags (entry_at f at) ≡ false
        → seek f name flags n at ≡ seek f name flags (n - 1) (at + size_at f at)
    seek_on n at h q = seek_step n at h ∙ rw q

    pub seek_done : (n at : ℕ) → n ≤ 0 → seek f name flags n at ≡ at
    unfolding seek
    seek_done zero at h = refl
    seek_done (suc n) at h = absurd (omega arith)

    -- it gives an entry's start or the entries' end
    pub seek_stands : (n at : ℕ) → stands (size_at f) n at (seek f name flags n at) ≡ true
    unfolding seek
    seek_stands zero at = stands_first (size_at f) 0 at
    seek_stands (suc n) at =
        by_cases (is_key name flags (entry_at f at)) (λ k. rw k (stands_first (size_at f) (suc n) at))
        (λ k. rw k (stands_later (size_at f) (seek f name flags n (at + size_at f at)) n at (seek_stands n (at + size_at f at))))

    pub seek_within : (n at : ℕ) → seek f name flags n at ≤ start (size_at f) n at
    seek_within n at = stands_within (size_at f) (seek f name flags n at) n at (seek_stands n at)

    -- an entry that is found lies within the entries
    pub seek_fits : (n at : ℕ) → seek f name flags n at < start (size_at f) n at
        → seek f name flags n at + size_at f (seek f name flags n at) ≤ start (size_at f) n at
    seek_fits n at h = stands_fits (size_at f) (seek f name flags n at) n at (seek_stands n at) (λ q. omega arith)

    -- where one is found, there is one
    pub seek_count : (n at : ℕ) → seek f name flags n at < start (size_at f) n at → 1 ≤ n
    unfolding seek start
    seek_count zero at h = absurd (omega arith)
    seek_count (suc n) at h = omega arith

    -- it stops before the entries' end exactly when one of them has the name and the flags
    pub seek_some : (n at : ℕ) → ltb (seek f name flags n at) (start (size_at f) n at) ≡ some_of (is_key name flags) (entries f n at)
    unfolding seek start places
    seek_some zero at = le-ltb at at (omega arith)
    seek_some (suc n) at =
        by_cases (is_key name flags (entry_at f at))
        (λ k. rw k (lt-ltb at (start (size_at f) n (at + size_at f at)) (omega (arith, three f at, start_above (size_at f) n (at + size_at f at)))))
        (λ k. rw k (seek_some n (at + size_at f at)))

-- a search over entries that tile
module _ (f : List ℕ) (end : ℕ) (name : List ℕ) (flags : ℕ) {n from i at : ℕ} (v : Left (seek f name flags) f n from i at)
    (t : tiled (size_at f) end n from ≡ true) where
  pub find_hit : i < n → is_key name flags (entry_at f at) ≡ true → Some at ≡ place_before end (seek f name flags n from)
  find_hit h k =
      let e : at ≡ seek f name flags n from = left_stop v (seek_hit f name flags (n - i) at (omega arith) k) in
      let b : at < end = omega (arith, rest_fits v.rest (omega arith), three f at, eqb-true (start (size_at f) n from) end t) in
      rw (← e, lt-ltb at end b)

  pub find_none : n ≤ i → None ≡ place_before end (seek f name flags n from)
  find_none h =
      let e : at ≡ seek f name flags n from = left_stop v (seek_done f name flags (n - i) at (omega arith)) in
      let b : end ≤ at = omega (arith, v.rest.ends, start_done (size_at f) (n - i) at (omega arith), eqb-true (start (size_at f) n from) end t) in
      rw (← e, le-ltb at end b)
