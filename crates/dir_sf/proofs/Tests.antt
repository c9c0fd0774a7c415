-- The tests of the entries, one by one.
-- Assumes nothing.
use Prim.Native.Nat.{ℕ, suc, ◌+◌, ◌-◌, ◌*◌, ◌%◌, ◌≤◌, ◌<◌}
use native.Mathlib.Omega.{arith}
use mathlib.Core.Bool.{Bool, false, not, cond, ◌&&◌}
use mathlib.Core.Path.{◌≡◌, refl, sym, ◌∙◌, ap, ap₂}
use mathlib.Core.List.{List, [], ◌∷◌}
use lib.Dec.{eqb, leb, ltb}
use lib.ListN.{length, get_or, length-take, length-drop}
use borrow.Author.Tests.{le-leb, lt-leb, lt-ltb, le-ltb, ltb-true, ltb-false, eq-eqb, ne_eqb}
use Rattle.std.specs.Int.{from_bool}
use Rattle.be.specs.Bytes.{field}
use Rattle.be.proofs.Bools.{by_cases, and_false}
use Rattle.records.specs.Records.{start, places}
use Rattle.records.proofs.Starts.{tiled_over}
use Rattle.edition.specs.declared.Edition.{Edition}
use Rattle.edition.specs.Edition.{entry_size, Sane}
use Rattle.name.specs.Name.{legal_name, legal_number, fixed_name, same_name}
use Rattle.dir_sf.specs.Entry.{SfEntry, size_at, entry_at, entries_in, filled, next_tag, tags_ok, end_tag, in_block, is_wide}
use Rattle.dir_sf.specs.Fork.{holds}
use Rattle.dir_sf.specs.Inner.{tiles, seek}
use Rattle.dir_sf.proofs.Run.{long_at_is, name_at_is, tag_at_is}

-- ---- TILE

module _ (e : Edition) (w told all low k : ℕ) (u : List ℕ) (p : ℕ) where
  tiles_on : (entry_at e w u p).tag % 8 ≡ 0 → low ≤ (entry_at e w u p).tag
      → tiles e w told all low u (suc k) p ≡ tiles e w told all (next_tag e (entry_at e w u p)) u k (p + size_at e w u p)
  unfolding tiles filled entries_in start places tags_ok end_tag
  tiles_on m l = rw (eq-eqb _ _ m, le-leb _ _ l) refl

  tiles_short : length u < p + size_at e w u p → tiles e w told all low u (suc k) p ≡ false
  unfolding tiles filled
  tiles_short h = rw (tiled_over (size_at e w u) (suc k) p (length u) (omega arith) h) refl

  tiles_odd : ((entry_at e w u p).tag % 8 ≡ 0 → ⊥) → tiles e w told all low u (suc k) p ≡ false
  unfolding tiles tags_ok entries_in places
  tiles_odd h = rw (ne_eqb _ _ h, and_false (filled e w u (suc k) p)) refl

  tiles_low : (entry_at e w u p).tag < low → tiles e w told all low u (suc k) p ≡ false
  unfolding tiles tags_ok entries_in places
  tiles_low h = rw (lt-leb _ _ h, and_false (eqb ((entry_at e w u p).tag % 8) 0), and_false (filled e w u (suc k) p)) refl

pub record Tile (e : Edition) (w told : ℕ) (u : List ℕ) (at k i p low : ℕ) : Type 0 where
  pub upto : i ≤ k
  pub inside : p ≤ length u
  pub small : low ≤ 65815
  pub few : k < 256
  pub rest : tiles e w told k e.first u k at ≡ tiles e w told k low u (k - i) p

pub tile_start : (e : Edition) (w told : ℕ) (u : List ℕ) (at k : ℕ) → Sane e → at ≤ length u → k < 256 → Tile e w told u at k 0 at e.first
tile_start e w told u at k sane h f =
    let a : k - 0 ≡ k = omega arith in
    record { upto = omega arith; inside = h; small = omega (arith, sane.first_after, sane.header_most); few = f; rest = ap (λ (j : ℕ). tiles e w told k e.first u j at) (sym a) }

module _ (e : Edition) (w told : ℕ) (u : List ℕ) (at k i p low : ℕ) (t : Tile e w told u at k i p low) (h : i < k) where
  more : k - i ≡ suc (k - (i + 1))
  more = omega arith

  at_next : tiles e w told k e.first u k at ≡ tiles e w told k low u (suc (k - (i + 1))) p
  at_next = t.rest ∙ ap (λ (j : ℕ). tiles e w told k low u j p) more

  pub tile_none : (v : ℕ) → v ≡ e.ftype + w → length u - p < 3 + v → false ≡ tiles e w told k e.first u k at
  tile_none v e₀ l =
      sym (at_next ∙ tiles_short e w told k low (k - (i + 1)) u p (omega (arith, t.inside, long_at_is e w u p)))

  pub tile_short : (n v : ℕ) → n ≡ get_or u p 0 → v ≡ e.ftype + w → length u - p < 3 + n + v → false ≡ tiles e w told k e.first u k at
  tile_short n v q e₀ l =
      sym (at_next ∙ tiles_short e w told k low (k - (i + 1)) u p (omega (arith, t.inside, long_at_is e w u p)))

  pub tile_odd : (tag : ℕ) → tag ≡ field (p + 1) 2 u → (tag % 8 ≡ 0 → ⊥) → false ≡ tiles e w told k e.first u k at
  tile_odd tag q l =
      let a : (entry_at e w u p).tag ≡ tag = tag_at_is e w u p ∙ sym q in
      sym (at_next ∙ tiles_odd e w told k low (k - (i + 1)) u p (λ z. l (ap (λ (j : ℕ). j % 8) (sym a) ∙ z)))

  pub tile_low : (tag : ℕ) → tag ≡ field (p + 1) 2 u → tag < low → false ≡ tiles e w told k e.first u k at
  tile_low tag q l =
      let a : (entry_at e w u p).tag ≡ tag = tag_at_is e w u p ∙ sym q in
      sym (at_next ∙ tiles_low e w told k low (k - (i + 1)) u p (omega arith))

  next_is : (n tag e₀ : ℕ) → p + 3 + n + (e.ftype + w) ≤ length u → n ≡ get_or u p 0 → tag ≡ field (p + 1) 2 u → e₀ ≡ entry_size e n → next_tag e (entry_at e w u p) ≡ tag + e₀
  unfolding next_tag
  next_is n tag e₀ l q f g =
      let a : (entry_at e w u p).tag ≡ tag = tag_at_is e w u p ∙ sym f in
      let b : length (entry_at e w u p).name ≡ n = rw (name_at_is e w u p) (simp (length-take, length-drop) (omega arith)) in
      ap₂ (λ (x y : ℕ). x + entry_size e y) a b ∙ ap (λ (y : ℕ). tag + y) (sym g)

  pub tile_on : (n v tag e₀ : ℕ) → n ≡ get_or u p 0 → v ≡ e.ftype + w → 3 + n + v ≤ length u - p → tag ≡ field (p + 1) 2 u → tag < 65536 → tag % 8 ≡ 0 → low ≤ tag
      → e₀ ≡ entry_size e n → e₀ < 280 → Tile e w told u at k (i + 1) (p + 3 + n + v) (tag + e₀)
  tile_on n v tag e₀ q f l g s m b c r =
      let a : (entry_at e w u p).tag ≡ tag = tag_at_is e w u p ∙ sym g in
      let z : p + size_at e w u p ≡ p + 3 + n + v = omega (arith, long_at_is e w u p) in
      record {
        upto = omega arith;
        inside = omega (arith, t.inside);
        small = omega arith;
        few = t.few;
        rest = at_next ∙ tiles_on e w told k low (k - (i + 1)) u p (ap (λ (j : ℕ). j % 8) a ∙ m) (omega arith)
            ∙ ap₂ (λ (x y : ℕ). tiles e w told k x u (k - (i + 1)) y) (next_is n tag e₀ (omega (arith, t.inside)) q g c) z;
      }

tiles_end : (e : Edition) (w told all low : ℕ) (u : List ℕ) (p : ℕ) → tiles e w told all low u 0 p ≡ (eqb p (length u) && leb (low + 8 * (all + 2) + 8) told)
unfolding tiles filled entries_in start places tags_ok end_tag in_block
tiles_end e w told all low u p = by_cases (eqb p (length u)) (λ q. rw q refl) (λ q. rw q refl)

module _ (e : Edition) (w told : ℕ) (u : List ℕ) (at k i p low : ℕ) (t : Tile e w told u at k i p low) (h : k ≤ i) where
  at_end : tiles e w told k e.first u k at ≡ (eqb p (length u) && leb (low + 8 * (k + 2) + 8) told)
  at_end =
      let a : k - i ≡ 0 = omega arith in
      t.rest ∙ ap (λ (j : ℕ). tiles e w told k low u j p) a ∙ tiles_end e w told k low u p

  pub tile_over : (p ≡ length u → ⊥) → false ≡ tiles e w told k e.first u k at
  tile_over n = sym (at_end ∙ rw (ne_eqb _ _ n) refl)

  pub tile_done : p ≡ length u → leb (low + 8 * (k + 2) + 8) told ≡ tiles e w told k e.first u k at
  tile_done q = sym (at_end ∙ rw (eq-eqb _ _ q) refl)

-- ---- NAME

pub storable_is : (e : Edition) (a b : Bool) (s : List ℕ) → a ≡ legal_name e s → b ≡ fixed_name s → (a && not b) ≡ (legal_name e s && not (fixed_name s))
storable_is e a b s h k = ap₂ (λ (x y : Bool). x && not y) h k

-- NUMBER
abbrev pub number_ok : SfEntry → Bool
number_ok x = legal_number x.target.inode

-- ---- wide numbers counted

pub wide_bit : (i r : ℕ) → r ≡ from_bool (ltb 4294967295 i) → (r ≡ cond (is_wide i) 1 0) × (r ≤ 1)
unfolding is_wide
wide_bit i r h =
    by_cases (ltb 4294967295 i)
    (λ q. let g : r ≡ 1 = rw q at h in rw q (g, omega arith))
    (λ q. let g : r ≡ 0 = rw q at h in rw q (g, omega arith))

-- ---- TWICE

more_ltb : (a b : ℕ) → ltb a b ≡ ltb (suc a) (suc b)
more_ltb a b =
    by_cases (ltb a b)
    (λ q. q ∙ sym (lt-ltb (suc a) (suc b) (omega (arith, ltb-true a b q))))
    (λ q. q ∙ sym (le-ltb (suc a) (suc b) (omega (arith, ltb-false a b q))))

pub seek_holds : (e : Edition) (n : List ℕ) (xs : List SfEntry) → holds e n xs ≡ ltb (seek e n xs) (length xs)
unfolding holds seek
seek_holds e n [] = sym (le-ltb 0 0 (omega arith))
seek_holds e n (x ∷ xs) =
    by_cases (same_name e n x.name)
    (λ q. rw q (sym (lt-ltb 0 (suc (length xs)) (omega arith))))
    (λ q. rw q (seek_holds e n xs ∙ more_ltb (seek e n xs) (length xs)))
