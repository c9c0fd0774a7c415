-- A run of entries passed one by one: the laws of records that lie end to end, for the entries of a short form.
-- Assumes nothing.
use Prim.Native.Nat.{ℕ, ◌+◌, ◌-◌, ◌≤◌, ◌<◌}
use native.Mathlib.Omega.{arith}
use mathlib.Core.Bool.{true}
use mathlib.Core.Path.{◌≡◌, refl, ◌∙◌, ap, subst}
use mathlib.Core.List.{List, [], ◌∷◌, ◌++◌, map, map-append}
use lib.ListN.{length, take, drop, get_or}
use borrow.Author.Tests.{le-leb, leb-true, eqb-true}
use Rattle.be.specs.Bytes.{part, field}
use Rattle.records.specs.Records.{start, places}
use Rattle.records.proofs.Starts.{start_fewer, places_done, length_records, records_take, records_drop}
use Rattle.records.proofs.Turns as turns
use Rattle.edition.specs.declared.Edition.{Edition}
use Rattle.dir.specs.Target.{target}
use Rattle.dir_sf.specs.Entry.{size_at, entry_at, entries_in, filled}
use Rattle.dir_sf.specs.Inner.{enough}

-- i of the k entries from `at` on are passed, and the next one starts at p; all of them lie in u
abbrev pub Run : Edition → ℕ → List ℕ → ℕ → ℕ → ℕ → ℕ → Type 0
Run e w u at k i p = turns.Run (size_at e w u) (length u) at k i p

-- ---- what an entry holds

module _ (e : Edition) (w : ℕ) (u : List ℕ) (p : ℕ) where
  pub long_at_is : size_at e w u p ≡ 3 + get_or u p 0 + (e.ftype + w)
  unfolding size_at
  long_at_is = omega arith

  pub tag_at_is : (entry_at e w u p).tag ≡ field (p + 1) 2 u
  unfolding entry_at
  tag_at_is = refl

  pub name_at_is : (entry_at e w u p).name ≡ part (p + 3) (get_or u p 0) u
  unfolding entry_at
  name_at_is = refl

  pub target_at_is : (n : ℕ) → n ≡ get_or u p 0 → (entry_at e w u p).target ≡ target (field (p + 3 + n + e.ftype) w u) (field (p + 3 + n) e.ftype u)
  unfolding entry_at
  target_at_is n h = rw h refl

-- ---- the entries of u

module _ (e : Edition) (w : ℕ) (u : List ℕ) where
  pub length_entries_in : (k at : ℕ) → length (entries_in e w u k at) ≡ k
  unfolding entries_in
  length_entries_in k at = length_records (size_at e w u) (entry_at e w u) k at

  -- entries that fill the bytes lie in them, and so do fewer
  pub filled_enough : (k at : ℕ) → filled e w u k at ≡ true → enough e w u k at ≡ true
  unfolding filled enough
  filled_enough k at f = le-leb (start (size_at e w u) k at) (length u) (omega (arith, eqb-true (start (size_at e w u) k at) (length u) f))

  pub enough_lies : (k at : ℕ) → enough e w u k at ≡ true → start (size_at e w u) k at ≤ length u
  unfolding enough
  enough_lies k at f = leb-true (start (size_at e w u) k at) (length u) f

  pub lies_enough : (k at : ℕ) → start (size_at e w u) k at ≤ length u → enough e w u k at ≡ true
  unfolding enough
  lies_enough k at h = le-leb (start (size_at e w u) k at) (length u) h

  module _ (j k at : ℕ) (h : j ≤ k) where
    pub enough_fewer : enough e w u k at ≡ true → enough e w u j at ≡ true
    enough_fewer f = lies_enough j at (omega (arith, start_fewer (size_at e w u) j k at h, enough_lies k at f))

    -- the first j entries, and those behind them
    pub entries_take : take j (entries_in e w u k at) ≡ entries_in e w u j at
    unfolding entries_in
    entries_take = records_take (size_at e w u) (entry_at e w u) j k at h

    pub entries_drop : drop j (entries_in e w u k at) ≡ entries_in e w u (k - j) (start (size_at e w u) j at)
    unfolding entries_in
    entries_drop = records_drop (size_at e w u) (entry_at e w u) j k at h

  -- ---- the run, as the loops have it

  pub run_start : (at k : ℕ) → enough e w u k at ≡ true → Run e w u at k 0 at
  run_start at k f = turns.run_start (size_at e w u) (length u) at k (enough_lies k at f)

  -- the run up to entry j, where j and its place are known
  pub run_at : (at k j p : ℕ) → enough e w u k at ≡ true → j ≤ k → p ≡ start (size_at e w u) j at → Run e w u at k j p
  run_at at k j p f l q = record { upto = l; place = q; lies = enough_lies k at f }

  pub run_whole : (at k : ℕ) → entries_in e w u k at ≡ entries_in e w u (k - 0) at
  run_whole at k = let a : k - 0 ≡ k = omega arith in rw a refl

  -- none are left
  pub run_over : (k i p : ℕ) → k ≤ i → entries_in e w u (k - i) p ≡ []
  unfolding entries_in
  run_over k i p h = rw (places_done (size_at e w u) (k - i) p (omega arith)) refl

  module _ (at k i p : ℕ) (r : Run e w u at k i p) where
    pub run_left : enough e w u (k - i) p ≡ true
    run_left = lies_enough (k - i) p (omega (arith, turns.run_ends r, r.lies))

    module _ (h : i < k) where
      pub run_one : enough e w u 1 p ≡ true
      run_one = enough_fewer 1 (k - i) p (omega arith) run_left

      -- the entries that are passed, and the next one
      pub run_passed : entries_in e w u (i + 1) at ≡ entries_in e w u i at ++ (entry_at e w u p ∷ [])
      unfolding entries_in
      run_passed = ap (map (entry_at e w u)) (turns.run_passed r h) ∙ map-append (entry_at e w u) (places (size_at e w u) i at) (p ∷ [])

pub run_on : (e : Edition) (w : ℕ) (u : List ℕ) (at k i p n v : ℕ) → Run e w u at k i p → i < k → n ≡ get_or u p 0 → v ≡ e.ftype + w → Run e w u at k (i + 1) (p + 3 + n + v)
run_on e w u at k i p n v r h q b =
    let a : p + (3 + n + v) ≡ p + 3 + n + v = omega arith in
    let s : 3 + n + v ≡ size_at e w u p = omega (arith, long_at_is e w u p) in
    subst (λ (j : ℕ). Run e w u at k (i + 1) j) a (turns.run_next r h s)

-- the entries that are left: the next one, and the others
pub run_rest : (e : Edition) (w : ℕ) (u : List ℕ) (at k i p n v : ℕ) → Run e w u at k i p → i < k → n ≡ get_or u p 0 → v ≡ e.ftype + w
    → entries_in e w u (k - i) p ≡ entry_at e w u p ∷ entries_in e w u (k - (i + 1)) (p + 3 + n + v)
unfolding entries_in
run_rest e w u at k i p n v r h q b =
    let a : p + (3 + n + v) ≡ p + 3 + n + v = omega arith in
    let s : 3 + n + v ≡ size_at e w u p = omega (arith, long_at_is e w u p) in
    ap (map (entry_at e w u)) (turns.run_left r h s ∙ ap (λ (j : ℕ). p ∷ places (size_at e w u) (k - (i + 1)) j) a)
