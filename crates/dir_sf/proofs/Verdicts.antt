-- The tests of the used bytes and of the fork, put together from what each test function gives.
-- Assumes nothing.
use Prim.Native.Nat.{ℕ, ◌+◌, ◌≤◌, ◌<◌}
use native.Mathlib.Omega.{arith}
use mathlib.Core.Bool.{Bool, true, false, not}
use mathlib.Core.Path.{◌≡◌, refl, sym, ◌∙◌, ap, ap₂}
use mathlib.Core.List.{List}
use lib.Dec.{leb}
use lib.ListN.{length, take, get_or, length-take}
use lib.Seq.{get_or-take}
use borrow.Author.Tests.{le-leb, lt-leb, eq-eqb, ne_eqb, not-true, not-false}
use Rattle.be.specs.Bytes.{field}
use Rattle.be.proofs.Bools.{by_cases, and_left}
use Rattle.edition.specs.declared.Edition.{Edition}
use Rattle.dir_sf.specs.Entry.{width_of, wides_of}
use Rattle.dir_sf.specs.Fork.{count_of, stored_wides, used_width, parent, entries, span_ok, tile_ok, names_ok, numbers_ok, once_ok, used_verdict, fork_verdict}
use Rattle.dir_sf.specs.Inner.{enough, tiles}
use Rattle.dir_sf.specs.Left.{placed_in, bare}
use Rattle.dir_sf.proofs.Run.{filled_enough}
use Rattle.dir_sf.proofs.Turn.{bare_is}
use Rattle.dir_sf.proofs.Listed.{entries_is, parent_is}

pub tiles_enough : (e : Edition) (w told all low : ℕ) (u : List ℕ) (k at : ℕ) (t : Bool) → t ≡ tiles e w told all low u k at → not t ≡ false → enough e w u k at ≡ true
unfolding tiles
tiles_enough e w told all low u k at t h f =
    filled_enough e w u k at (and_left _ _ (and_left _ _ (sym h ∙ not-false t f)))

module _ (e : Edition) (u : List ℕ) (told k wides w : ℕ) (a : k ≡ get_or u 0 0) (b : wides ≡ get_or u 1 0) (c : w ≡ width_of wides) where
  width_is : used_width u ≡ width_of wides
  unfolding used_width stored_wides
  width_is = ap width_of (sym b)

  all_is : entries e u ≡ bare (placed_in e (width_of wides) u k (2 + w))
  all_is = entries_is e u k wides w a b c ∙ sym (bare_is e (width_of wides) u k (2 + w))

  tile_is : tile_ok e told u ≡ tiles e (width_of wides) told k e.first u k (2 + w)
  unfolding tile_ok tiles entries count_of
  tile_is = rw (width_is, ← c, ← a) refl

  module _ (t₅ : Bool) (h₅ : t₅ ≡ tiles e (width_of wides) told k e.first u k (2 + w)) where
    pub verdict_5 : not t₅ ≡ true → ◌≡◌ {A = ℕ} 5 (used_verdict e told u)
    unfolding used_verdict
    verdict_5 f = sym (rw (tile_is ∙ sym h₅ ∙ not-true t₅ f) refl)

    module _ (g₅ : not t₅ ≡ false) (t₆ : Bool) (h₆ : t₆ ≡ names_ok e (bare (placed_in e (width_of wides) u k (2 + w)))) where
      five : tile_ok e told u ≡ true
      five = tile_is ∙ sym h₅ ∙ not-false t₅ g₅

      six_is : names_ok e (entries e u) ≡ t₆
      six_is = ap (names_ok e) all_is ∙ sym h₆

      pub verdict_6 : not t₆ ≡ true → ◌≡◌ {A = ℕ} 6 (used_verdict e told u)
      unfolding used_verdict
      verdict_6 f = sym (rw (five, six_is ∙ not-true t₆ f) refl)

      module _ (g₆ : not t₆ ≡ false) (p : ℕ) (hp : p ≡ field 2 (width_of wides) u) (t₇ : Bool)
          (h₇ : t₇ ≡ numbers_ok p (bare (placed_in e (width_of wides) u k (2 + w)))) where
        seven_is : numbers_ok (parent u) (entries e u) ≡ t₇
        seven_is = ap₂ numbers_ok (sym (parent_is u wides p b hp)) all_is ∙ sym h₇

        pub verdict_7 : not t₇ ≡ true → ◌≡◌ {A = ℕ} 7 (used_verdict e told u)
        unfolding used_verdict
        verdict_7 f = sym (rw (five, six_is ∙ not-false t₆ g₆, seven_is ∙ not-true t₇ f) refl)

        module _ (g₇ : not t₇ ≡ false) (n : ℕ) (h₈ : n ≡ wides_of p (bare (placed_in e (width_of wides) u k (2 + w)))) where
          counted : wides_of (parent u) (entries e u) ≡ n
          counted = ap₂ wides_of (sym (parent_is u wides p b hp)) all_is ∙ sym h₈

          pub verdict_8 : (wides ≡ n → ⊥) → ◌≡◌ {A = ℕ} 8 (used_verdict e told u)
          unfolding used_verdict stored_wides
          verdict_8 f = sym (rw (five, six_is ∙ not-false t₆ g₆, seven_is ∙ not-false t₇ g₇, counted, ← b, ne_eqb wides n f) refl)

          module _ (g₈ : wides ≡ n) (t₁₀ : Bool) (h₁₀ : t₁₀ ≡ once_ok e (bare (placed_in e (width_of wides) u k (2 + w)))) where
            ten_is : once_ok e (entries e u) ≡ t₁₀
            ten_is = ap (once_ok e) all_is ∙ sym h₁₀

            pub verdict_10 : not t₁₀ ≡ true → ◌≡◌ {A = ℕ} 10 (used_verdict e told u)
            unfolding used_verdict stored_wides
            verdict_10 f = sym (rw (five, six_is ∙ not-false t₆ g₆, seven_is ∙ not-false t₇ g₇, counted, ← b, eq-eqb wides n g₈, ten_is ∙ not-true t₁₀ f) refl)

            pub verdict_0 : not t₁₀ ≡ false → ◌≡◌ {A = ℕ} 0 (used_verdict e told u)
            unfolding used_verdict stored_wides
            verdict_0 f = sym (rw (five, six_is ∙ not-false t₆ g₆, seven_is ∙ not-false t₇ g₇, counted, ← b, eq-eqb wides n g₈, ten_is ∙ not-false t₁₀ f) refl)

-- ---- SPAN

module _ (e : Edition) (f : List ℕ) (told size wides w : ℕ) (b : wides ≡ get_or f 1 0) (c : w ≡ width_of wides) where
  fork_width : used_width f ≡ w
  unfolding used_width stored_wides
  fork_width = ap width_of (sym b) ∙ sym c

  pub span_under : size < 2 + w → ◌≡◌ {A = ℕ} 4 (fork_verdict e told f size)
  unfolding fork_verdict span_ok
  span_under h = sym (rw (fork_width, lt-leb (2 + w) size h) refl)

  pub span_over : length f < size → ◌≡◌ {A = ℕ} 4 (fork_verdict e told f size)
  unfolding fork_verdict span_ok
  span_over h = sym (by_cases (leb (2 + used_width f) size) (λ q. rw (q, lt-leb size (length f) h) refl) (λ q. rw q refl))

  module _ (l : 2 + w ≤ size) (m : size ≤ length f) where
    pub span_in : (r : ℕ) → r ≡ used_verdict e told (take size f) → r ≡ fork_verdict e told f size
    unfolding fork_verdict span_ok
    span_in r h = rw (fork_width, le-leb (2 + w) size l, le-leb size (length f) m) h

    pub used_in : 2 + used_width (take size f) ≤ length (take size f)
    unfolding used_width stored_wides
    used_in =
        let z : 1 < size = omega arith in
        let y : width_of (get_or (take size f) 1 0) ≡ w = ap width_of (get_or-take size f 1 0 z ∙ sym b) ∙ sym c in
        simp length-take (omega arith)
