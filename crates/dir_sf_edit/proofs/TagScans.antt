-- The tags, entry by entry: their end, the lowest gap, and where a tag stands among them.
-- Assumes nothing.
use Prim.Native.Nat.{ℕ, suc, ◌+◌, ◌-◌, ◌*◌, ◌≤◌, ◌<◌}
use native.Mathlib.Nat.{zero-add}
use native.Mathlib.Omega.{arith}
use mathlib.Core.Bool.{true}
use mathlib.Core.Path.{◌≡◌, refl, sym, ◌∙◌, ap, ap₂}
use mathlib.Core.List.{List, [], ◌∷◌}
use lib.Dec.{leb}
use lib.ListN.{length, get_or}
use borrow.Author.Tests.{lt-ltb, le-ltb, le-leb, lt-leb}
use Rattle.be.specs.Bytes.{byte, field}
use Rattle.records.specs.Records.{start}
use Rattle.edition.specs.declared.Edition.{Edition}
use Rattle.edition.specs.Edition.{entry_size}
use Rattle.std.specs.Prelude.{Option, Some, None}
use Rattle.dir.specs.declared.Target.{Target}
use Rattle.dir_sf.specs.Entry.{SfEntry, entry, width_of, size_at, entry_at, entries_in, next_tag, end_tag, in_block}
use Rattle.dir_sf.specs.Change.{gap_tag, tag_for}
use Rattle.dir_sf.specs.Fork.{count_of, entries, place_of}
use Rattle.dir_sf.specs.Inner.{enough}
use Rattle.dir_sf.specs.Left.{placed, bare}
use Rattle.dir_sf.proofs.Turn.{placed_bare}
use Rattle.dir_sf_edit.specs.Inner.{rank}
use Rattle.dir_sf.proofs.Listed.{entries_is, place_is, count_is}
use Rattle.dir_sf.proofs.Run.{Run, run_start, run_on, run_rest, run_over, run_whole, tag_at_is}

-- ---- their end

pub end_cons : (e : Edition) (low : ℕ) (x : SfEntry) (xs : List SfEntry) → end_tag e low (x ∷ xs) ≡ end_tag e (next_tag e x) xs
unfolding end_tag
end_cons e low x xs = refl

pub end_none : (e : Edition) (low : ℕ) → end_tag e low [] ≡ low
unfolding end_tag
end_none e low = refl

-- one entry more
pub end_on : (e : Edition) (low tag : ℕ) (n : List ℕ) (t : Target) (xs : List SfEntry) (s : ℕ) → s ≡ entry_size e (length n)
    → end_tag e low (entry tag n t ∷ xs) ≡ end_tag e (tag + s) xs
unfolding end_tag next_tag
end_on e low tag n t xs s h = rw (← h) refl

-- ---- the lowest gap

pub gap_here : (e : Edition) (long low : ℕ) (x : SfEntry) (xs : List SfEntry) → low + long ≤ x.tag → gap_tag e long low (x ∷ xs) ≡ Some low
unfolding gap_tag
gap_here e long low x xs h = rw (le-leb _ _ h) refl

gap_later : (e : Edition) (long low : ℕ) (x : SfEntry) (xs : List SfEntry) → x.tag < low + long → gap_tag e long low (x ∷ xs) ≡ gap_tag e long (next_tag e x) xs
unfolding gap_tag
gap_later e long low x xs h = rw (lt-leb _ _ h) refl

pub gap_none : (e : Edition) (long low : ℕ) (xs : List SfEntry) → xs ≡ [] → None ≡ gap_tag e long low xs
unfolding gap_tag
gap_none e long low xs h = sym (ap (gap_tag e long low) h)

pub gap_on : (e : Edition) (long low tag : ℕ) (n : List ℕ) (t : Target) (xs : List SfEntry) (s : ℕ) → tag < low + long → s ≡ entry_size e (length n)
    → gap_tag e long low (entry tag n t ∷ xs) ≡ gap_tag e long (tag + s) xs
unfolding next_tag
gap_on e long low tag n t xs s h k = gap_later e long low (entry tag n t) xs h ∙ rw (← k) refl

-- ---- where a tag stands

rank_here : (t : ℕ) (x : SfEntry) (xs : List SfEntry) → t < x.tag → rank t (x ∷ xs) ≡ 0
unfolding rank
rank_here t x xs h = rw (lt-ltb _ _ h) refl

rank_later : (t : ℕ) (x : SfEntry) (xs : List SfEntry) → x.tag ≤ t → rank t (x ∷ xs) ≡ suc (rank t xs)
unfolding rank
rank_later t x xs h = rw (le-ltb _ _ h) refl

rank_none : (t : ℕ) → rank t [] ≡ 0
unfolding rank
rank_none t = refl

pub record Ranks (e : Edition) (w t : ℕ) (u : List ℕ) (at k i p : ℕ) : Type 0 where
  pub run : Run e w u at k i p
  pub rest : rank t (entries_in e w u k at) ≡ i + rank t (entries_in e w u (k - i) p)

pub ranks_start : (e : Edition) (w t : ℕ) (u : List ℕ) (at k : ℕ) → enough e w u k at ≡ true → Ranks e w t u at k 0 at
ranks_start e w t u at k f = record { run = run_start e w u at k f; rest = ap (rank t) (run_whole e w u at k) ∙ sym (zero-add _) }

pub ranks_found : (e : Edition) (w t : ℕ) (u : List ℕ) (at k i p n tag : ℕ) → Ranks e w t u at k i p → i < k → n ≡ get_or u p 0 → tag ≡ field (p + 1) 2 u → t < tag
    → i ≡ rank t (entries_in e w u k at)
ranks_found e w t u at k i p n tag s h a c l =
    let x : (entry_at e w u p).tag ≡ tag = tag_at_is e w u p ∙ sym c in
    let z : rank t (entries_in e w u (k - i) p) ≡ 0 = ap (rank t) (run_rest e w u at k i p n (e.ftype + w) s.run h a refl) ∙ rank_here t _ _ (omega arith) in
    omega (arith, s.rest)

pub ranks_on : (e : Edition) (w t : ℕ) (u : List ℕ) (at k i p n v tag : ℕ) → Ranks e w t u at k i p → i < k → n ≡ get_or u p 0 → v ≡ e.ftype + w → tag ≡ field (p + 1) 2 u → tag ≤ t
    → Ranks e w t u at k (i + 1) (p + 3 + n + v)
ranks_on e w t u at k i p n v tag s h a b c l =
    let x : (entry_at e w u p).tag ≡ tag = tag_at_is e w u p ∙ sym c in
    let z : rank t (entries_in e w u (k - i) p) ≡ suc (rank t (entries_in e w u (k - (i + 1)) (p + 3 + n + v))) =
    ap (rank t) (run_rest e w u at k i p n v s.run h a b) ∙ rank_later t _ _ (omega arith) in
    record { run = run_on e w u at k i p n v s.run h a b; rest = s.rest ∙ omega arith }

pub ranks_done : (e : Edition) (w t : ℕ) (u : List ℕ) (at k i p : ℕ) → Ranks e w t u at k i p → k ≤ i
    → (k ≡ rank t (entries_in e w u k at)) × (p ≡ start (size_at e w u) k at)
ranks_done e w t u at k i p s h =
    let z : rank t (entries_in e w u (k - i) p) ≡ 0 = ap (rank t) (run_over e w u k i p h) ∙ rank_none t in
    let q : i ≡ k = omega (arith, s.run.upto) in
    (omega (arith, s.rest), s.run.place ∙ ap (λ (j : ℕ). start (size_at e w u) j at) q)

-- ---- in the used bytes

module _ (e : Edition) (u : List ℕ) (k wides w t i p : ℕ) (a : k ≡ byte 0 u) (b : wides ≡ byte 1 u) (c : w ≡ width_of wides) where
  pub spot_index : i ≡ rank t (entries_in e (width_of wides) u k (2 + w)) → i ≡ rank t (entries e u)
  spot_index h = h ∙ ap (rank t) (sym (entries_is e u k wides w a b c))

  pub spot_place : p ≡ start (size_at e (width_of wides) u) i (2 + w) → p ≡ place_of e i u
  spot_place h = place_is e u wides w i p b c h

pub ends_used : (e f : Edition) (u : List ℕ) (xs : List (ℕ × SfEntry)) (r : ℕ) → f ≡ e → xs ≡ placed e u → r ≡ end_tag f f.first (bare xs) → r ≡ end_tag e e.first (entries e u)
ends_used e f u xs r a b h =
    h ∙ ap₂ (λ (y : Edition) (ys : List (ℕ × SfEntry)). end_tag y y.first (bare ys)) a b ∙ ap (end_tag e e.first) (placed_bare e u)

pub gaps_used : (e f : Edition) (u : List ℕ) (xs : List (ℕ × SfEntry)) (long : ℕ) (r : Option ℕ) → f ≡ e → xs ≡ placed e u → r ≡ gap_tag f long f.first (bare xs)
    → r ≡ gap_tag e long e.first (entries e u)
gaps_used e f u xs long r a b h =
    h ∙ ap₂ (λ (y : Edition) (ys : List (ℕ × SfEntry)). gap_tag y long y.first (bare ys)) a b ∙ ap (gap_tag e long e.first) (placed_bare e u)

module _ (e : Edition) (u : List ℕ) (told n k long end : ℕ) (a : k ≡ byte 0 u) (l : long ≡ entry_size e n) (f : end ≡ end_tag e e.first (entries e u)) where
  limit : (z : ℕ) → in_block told z (suc (length (entries e u))) ≡ leb (z + 8 * (k + 1 + 2) + 8) told
  unfolding in_block count_of
  limit z =
      let q : z + 8 * (suc (length (entries e u)) + 2) + 8 ≡ z + 8 * (k + 1 + 2) + 8 = omega (arith, count_is e u) in
      ap (λ (x : ℕ). leb x told) q

  pub tag_last : end + long + 8 * (k + 1 + 2) + 8 ≤ told → Some end ≡ tag_for e told n (entries e u)
  unfolding tag_for
  tag_last h = rw (← l, ← f, limit (end + long), le-leb _ _ h) refl

  pub tag_gap : (r : Option ℕ) → told < end + long + 8 * (k + 1 + 2) + 8 → end + 8 * (k + 1 + 2) + 8 ≤ told
      → r ≡ gap_tag e long e.first (entries e u) → r ≡ tag_for e told n (entries e u)
  unfolding tag_for
  tag_gap r h m q =
      rw (← l, ← f, limit (end + long), lt-leb _ _ h, limit end, le-leb _ _ m) q

  pub tag_none : told < end + 8 * (k + 1 + 2) + 8 → None ≡ tag_for e told n (entries e u)
  unfolding tag_for
  tag_none m =
      let h : told < end + long + 8 * (k + 1 + 2) + 8 = omega arith in
      rw (← l, ← f, limit (end + long), lt-leb _ _ h, limit end, lt-leb _ _ m) refl
