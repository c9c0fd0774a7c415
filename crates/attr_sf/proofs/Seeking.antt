-- Where the entry asked for lies in a fork that passes its tests, and what is read of it first.
-- Assumes nothing.
use Prim.Native.Nat.{ℕ, ◌+◌, ◌-◌, ◌≤◌, ◌<◌}
use native.Mathlib.Nat.{le_trans}
use native.Mathlib.Omega.{arith}
use mathlib.Core.Path.{◌≡◌}
use mathlib.Core.List.{List}
use lib.Dec.{ltb}
use lib.ListN.{length}
use borrow.Author.Tests.{lt-ltb, le-ltb, ltb-true}
use Rattle.std.specs.Prelude.{Result, Ok, Err, Option, Some, None}
use Rattle.refusal.specs.Refusal.{ABSENT}
use Rattle.be.specs.Bytes.{byte, field}
use Rattle.be.proofs.Bools.{by_cases}
use Rattle.attr_sf.specs.declared.Place.{Place}
use Rattle.attr_sf.specs.declared.Plan.{Plan}
use Rattle.attr_sf.specs.Fork.{header, totsize, count, size_at, fork_verdict, key_place, seek}
use Rattle.attr_sf.specs.Calls.{held, held_request, found_in, attr_at, value_at}
use Rattle.attr_sf.specs.Inner.{plan_of, place_before}
use Rattle.attr_sf.proofs.Tiling.{three, before_is, before_not, seek_count, seek_fits, seek_within, value_inside}
use Rattle.attr_sf.proofs.ForkTests.{all_ends, end_inside}

module _ (f name : List ℕ) (flags : ℕ) where
  pub place_fits : fork_verdict f ≡ 0 → key_place f name flags < totsize f → key_place f name flags + size_at f (key_place f name flags) ≤ totsize f
  unfolding key_place
  place_fits z h = rw (← all_ends f z) (seek_fits f name flags (count f) header (rw (← all_ends f z) at h))

  pub count_above : fork_verdict f ≡ 0 → key_place f name flags < totsize f → 1 ≤ count f
  unfolding key_place
  count_above z h = seek_count f name flags (count f) header (rw (← all_ends f z) at h)

  pub place_within : fork_verdict f ≡ 0 → key_place f name flags ≤ totsize f
  unfolding key_place
  place_within z = rw (← all_ends f z) (seek_within f name flags (count f) header)

  -- as it is searched for
  pub place_is : {g : List ℕ} {n from end : ℕ} {r : Option ℕ} → g ≡ f → from ≡ header → n ≡ count f → end ≡ totsize f
      → r ≡ place_before end (seek g name flags n from) → r ≡ place_before (totsize f) (key_place f name flags)
  unfolding key_place
  place_is a b d e h = rw (a, b, d, e) at h

  module _ {p : ℕ} (s : Some p ≡ place_before (totsize f) (key_place f name flags)) where
    module _ (z : fork_verdict f ≡ 0) where
      pub at_fits : p + size_at f p ≤ length f
      at_fits = let q = before_is s in rw q.0 (le_trans (place_fits z q.1) (end_inside f z))

      pub at_long : p + 3 ≤ length f
      at_long = omega (arith, at_fits, three f p)

      pub at_count : {n : ℕ} → n ≡ byte 2 f → 1 ≤ n
      unfolding count
      at_count m = rw m (count_above z (before_is s).1)

    pub found_at : (o : ℕ) → ◌≡◌ {A = Result Place ℕ} (Ok (record { start = o + (p + 3 + byte p f); len = byte (p + 1) f })) (found_in o f name flags)
    unfolding found_in held_request held attr_at
    found_at o = let q = before_is s in rw (q.0, lt-ltb _ _ q.1)

  pub found_not : (o : ℕ) → None ≡ place_before (totsize f) (key_place f name flags) → Err ABSENT ≡ found_in o f name flags
  unfolding found_in held_request held
  found_not o s = rw (le-ltb _ _ (before_not s))

  -- a value that is found lies in the fork that starts at s
  pub value_fits : (s : ℕ) → fork_verdict f ≡ 0 → held_request f name flags ≡ 0
      → (value_at s f (key_place f name flags)).start + (value_at s f (key_place f name flags)).len ≤ s + length f
  unfolding held_request held attr_at
  value_fits s z h =
      by_cases (ltb (key_place f name flags) (totsize f))
      (λ q. omega (arith, value_inside f (key_place f name flags) (totsize f) (place_fits z (ltb-true _ _ q)), end_inside f z))
      (λ q. absurd (let r : ◌≡◌ {A = ℕ} 13 0 = rw q at h in omega arith))

-- the plan
module _ (f name : List ℕ) (flags : ℕ) {t n : ℕ} (d : t ≡ field 0 2 f) (m : n ≡ byte 2 f) where
  pub plan_found : {p s : ℕ} → Some p ≡ place_before (totsize f) (key_place f name flags) → s ≡ size_at f p
      → ◌≡◌ {A = Plan} (record { at = p; size = s; kept = n - 1; end = t }) (plan_of f name flags)
  unfolding plan_of totsize count
  plan_found h z = let q = before_is h in rw (z, q.0, d, m, lt-ltb _ _ q.1)

  pub plan_not : fork_verdict f ≡ 0 → None ≡ place_before (totsize f) (key_place f name flags)
      → ◌≡◌ {A = Plan} (record { at = t; size = 0; kept = n; end = t }) (plan_of f name flags)
  unfolding plan_of totsize count
  plan_not z h =
      let l : field 0 2 f ≤ key_place f name flags = before_not h in
      let q : key_place f name flags ≡ field 0 2 f = omega (arith, place_within f name flags z) in
      rw (d, m, le-ltb _ _ l, q)
