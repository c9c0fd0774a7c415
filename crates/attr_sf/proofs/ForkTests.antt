-- The fork's tests, one after the other.
-- Assumes nothing.
use Prim.Native.Nat.{ℕ, ◌≤◌, ◌<◌}
use native.Mathlib.Omega.{arith}
use mathlib.Core.Bool.{Bool, true, false, cond, ◌||◌}
use mathlib.Core.Path.{◌≡◌, refl, sym, ◌∙◌}
use mathlib.Core.List.{List}
use lib.Dec.{leb, ltb}
use lib.ListN.{length}
use borrow.Author.Tests.{le-leb, lt-leb, leb-true, eqb-true, ltb-true, ltb-false}
use Rattle.be.specs.Lists.{every}
use Rattle.be.specs.Bytes.{byte, field}
use Rattle.be.proofs.Bools.{by_cases, and_left, and_right}
use Rattle.records.specs.Records.{start, tiled}
use Rattle.attr_sf.specs.Entry.{distinct}
use Rattle.attr_sf.specs.Fork.{header, totsize, count, stored, size_at, entries, name_legal_of, flags_legal_of, span_ok, tile_ok, names_ok, flags_ok, once_ok, fork_verdict}
use Rattle.attr_sf.specs.Inner.{own_verdict}

module _ (f : List ℕ) where
  pub span_short : length f < header → 4 ≡ fork_verdict f
  unfolding fork_verdict span_ok
  span_short h = rw (lt-leb header (length f) h)

  module _ {end : ℕ} (e : end ≡ field 0 2 f) (h : header ≤ length f) where
    span_low : end < header → 4 ≡ fork_verdict f
    unfolding fork_verdict span_ok totsize
    span_low k = rw (← e, le-leb header (length f) h, lt-leb header end k)

    module _ (k : header ≤ end) where
      span_over : length f < end → 4 ≡ fork_verdict f
      unfolding fork_verdict span_ok totsize
      span_over l = rw (← e, le-leb header (length f) h, le-leb header end k, lt-leb end (length f) l)

    pub span_out : (ltb end header || ltb (length f) end) ≡ true → 4 ≡ fork_verdict f
    span_out t =
        by_cases (ltb end header) (λ q. span_low (ltb-true end header q))
        (λ q. span_over (ltb-false end header q) (ltb-true (length f) end (rw q at t)))

    module _ (k : header ≤ end) where
      module _ {n : ℕ} (m : n ≡ byte 2 f) (l : end ≤ length f) where
        span_is : span_ok f ≡ true
        unfolding span_ok totsize
        span_is = rw (← e, le-leb header (length f) h, le-leb header end k, le-leb end (length f) l)

        pub not_tiled : tiled (size_at f) end n header ≡ false → 5 ≡ fork_verdict f
        unfolding fork_verdict tile_ok totsize count
        not_tiled t = rw (span_is, ← e, ← m, t)

        module _ (t : tiled (size_at f) end n header ≡ true) where
          -- what is left to test once the entries tile
          rest_is : cond (every name_legal_of (entries f n header)) (cond (every flags_legal_of (entries f n header)) (cond (distinct (entries f n header)) 0 10) 7) 6 ≡ fork_verdict f
          unfolding fork_verdict tile_ok names_ok flags_ok once_ok totsize count stored
          rest_is = rw (span_is, ← e, ← m, t)

          pub not_own : {r : ℕ} → r ≡ own_verdict (entries f n header) → (r ≡ 0 → ⊥) → r ≡ fork_verdict f
          not_own q d =
              q
              ∙ by_cases (every name_legal_of (entries f n header))
              (λ u.
              by_cases (every flags_legal_of (entries f n header)) (λ v. absurd (d (q ∙ rw (u, v)))) (λ v. rw (u, v) (rw (u, v) at rest_is)))
              (λ u. rw u (rw u at rest_is))

          module _ (q : 0 ≡ own_verdict (entries f n header)) where
            own_passed : (every name_legal_of (entries f n header) ≡ true) × (every flags_legal_of (entries f n header) ≡ true)
            own_passed = go (every name_legal_of (entries f n header)) (every flags_legal_of (entries f n header)) (sym q)
              where
                go : (u v : Bool) → ◌≡◌ {A = ℕ} (cond u (cond v 0 7) 6) 0 → (u ≡ true) × (v ≡ true)
                go true true h = (refl, refl)
                go true false h = absurd (omega arith)
                go false v h = absurd (omega arith)

            pub not_once : distinct (entries f n header) ≡ false → 10 ≡ fork_verdict f
            not_once d = rw (own_passed.0, own_passed.1, d) at rest_is

            pub all_passed : distinct (entries f n header) ≡ true → 0 ≡ fork_verdict f
            all_passed d = rw (own_passed.0, own_passed.1, d) at rest_is

-- five tests that all pass
five : (a b d g h : Bool) → ◌≡◌ {A = ℕ} (cond a (cond b (cond d (cond g (cond h 0 10) 7) 6) 5) 4) 0
    → ((a ≡ true) × (b ≡ true)) × ((d ≡ true) × ((g ≡ true) × (h ≡ true)))
five true true true true true q = ((refl, refl), (refl, (refl, refl)))
five true true true true false q = absurd (omega arith)
five true true true false h q = absurd (omega arith)
five true true false g h q = absurd (omega arith)
five true false d g h q = absurd (omega arith)
five false b d g h q = absurd (omega arith)

-- what a fork that passes is known to have
module _ (f : List ℕ) (z : fork_verdict f ≡ 0) where
  passes : ((span_ok f ≡ true) × (tile_ok f ≡ true)) × ((names_ok f ≡ true) × ((flags_ok f ≡ true) × (once_ok f ≡ true)))
  unfolding fork_verdict
  passes = five (span_ok f) (tile_ok f) (names_ok f) (flags_ok f) (once_ok f) z

  pub long : header ≤ length f
  unfolding span_ok
  long = leb-true _ _ (and_left (leb header (length f)) _ passes.0.0)

  pub end_above : header ≤ totsize f
  unfolding span_ok
  end_above = leb-true _ _ (and_left (leb header (totsize f)) _ (and_right (leb header (length f)) _ passes.0.0))

  pub end_inside : totsize f ≤ length f
  unfolding span_ok
  end_inside = leb-true _ _ (and_right (leb header (totsize f)) _ (and_right (leb header (length f)) _ passes.0.0))

  pub all_tiled : tiled (size_at f) (totsize f) (count f) header ≡ true
  unfolding tile_ok
  all_tiled = passes.0.1

  -- the entries end at totsize
  pub all_ends : start (size_at f) (count f) header ≡ totsize f
  all_ends = eqb-true (start (size_at f) (count f) header) (totsize f) all_tiled

  pub all_named : every name_legal_of (stored f) ≡ true
  unfolding names_ok
  all_named = passes.1.0

  pub all_flagged : every flags_legal_of (stored f) ≡ true
  unfolding flags_ok
  all_flagged = passes.1.1.0

  pub all_once : distinct (stored f) ≡ true
  unfolding once_ok
  all_once = passes.1.1.1
