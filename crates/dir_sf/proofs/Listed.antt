-- The used bytes as the code reads them: count and i8count from the header, then the entries before a place and from it on.
-- Assumes nothing.
use Prim.Native.Nat.{ℕ, ◌+◌, ◌-◌, ◌≤◌, ◌<◌}
use native.Mathlib.Omega.{arith}
use mathlib.Core.Bool.{true}
use mathlib.Core.Path.{◌≡◌, refl, sym, ◌∙◌, ap}
use mathlib.Core.List.{List}
use lib.ListN.{length, take, drop}
use Rattle.be.specs.Bytes.{byte, field, put}
use Rattle.records.specs.Records.{start}
use Rattle.records.proofs.Turns.{run_inside}
use Rattle.edition.specs.declared.Edition.{Edition}
use Rattle.dir_sf.specs.Entry.{SfEntry, width_of, entries_in, size_at, entries_bytes}
use Rattle.dir_sf.specs.Fork.{count_of, stored_wides, used_width, parent, entries, place_of}
use Rattle.dir_sf.specs.Inner.{enough, Readable}
use Rattle.dir_sf.specs.Left.{placed_in, bare}
use Rattle.dir_sf.proofs.Turn.{bare_is}
use Rattle.dir_sf.proofs.Run.{Run, run_at, run_left, run_on, run_one, enough_fewer, entries_take, entries_drop, length_entries_in}

-- the header, as it is read
pub header_in : (u : List ℕ) (wides w : ℕ) → 2 + used_width u ≤ length u → wides ≡ byte 1 u → w ≡ width_of wides → 2 + w ≤ length u
unfolding used_width stored_wides
header_in u wides w h a b = omega (arith, b ∙ ap width_of a)

pub parent_in : (u : List ℕ) (wides : ℕ) → 2 + used_width u ≤ length u → wides ≡ byte 1 u → 2 + width_of wides ≤ length u
parent_in u wides h a = header_in u wides (width_of wides) h a refl

pub parent_is : (u : List ℕ) (wides r : ℕ) → wides ≡ byte 1 u → r ≡ field 2 (width_of wides) u → r ≡ parent u
unfolding parent used_width stored_wides
parent_is u wides r a h = h ∙ ap (λ (z : ℕ). field 2 (width_of z) u) a

pub list_enough : (e : Edition) (u : List ℕ) (k wides w : ℕ) → k ≡ byte 0 u → wides ≡ byte 1 u → w ≡ width_of wides
    → enough e (used_width u) u (count_of u) (2 + used_width u) ≡ true → enough e (width_of wides) u k (2 + w) ≡ true
unfolding used_width stored_wides count_of
list_enough e u k wides w a b c h = rw (c, a, b) h

pub entries_is : (e : Edition) (u : List ℕ) (k wides w : ℕ) → k ≡ byte 0 u → wides ≡ byte 1 u → w ≡ width_of wides
    → entries e u ≡ entries_in e (width_of wides) u k (2 + w)
unfolding entries used_width stored_wides count_of
entries_is e u k wides w a b c = rw (c, a, b) refl

pub place_is : (e : Edition) (u : List ℕ) (wides w i p : ℕ) → wides ≡ byte 1 u → w ≡ width_of wides
    → p ≡ start (size_at e (width_of wides) u) i (2 + w) → p ≡ place_of e i u
unfolding place_of used_width stored_wides
place_is e u wides w i p b c h = h ∙ rw (c, b) refl

pub count_is : (e : Edition) (u : List ℕ) → length (entries e u) ≡ count_of u
unfolding entries
count_is e u = length_entries_in e (used_width u) u (count_of u) (2 + used_width u)

-- what the header's count leaves known
pub count_some : (u : List ℕ) (k index : ℕ) → k ≡ byte 0 u → index < count_of u → 1 ≤ k
unfolding count_of
count_some u k index a h = omega arith

pub others_in : (u : List ℕ) (k index : ℕ) → k ≡ byte 0 u → index ≤ count_of u → index ≤ k
unfolding count_of
others_in u k index a h = omega arith

pub count_more : (u : List ℕ) (k : ℕ) → k ≡ byte 0 u → count_of u < 255 → k + 1 < 256
unfolding count_of
count_more u k a h = omega arith

pub index_small : (u : List ℕ) (k index : ℕ) → k ≡ byte 0 u → k < 256 → index < count_of u → index < 256
unfolding count_of
index_small u k index a l h = omega arith

-- the run of entries up to the one at a place
module _ (e : Edition) (u : List ℕ) (wides index at : ℕ) (b : wides ≡ byte 1 u) (r : Readable e u) (l : index ≤ count_of u) (q : at ≡ place_of e index u) where
  there : Run e (width_of wides) u (2 + width_of wides) (count_of u) index at
  unfolding place_of used_width stored_wides count_of
  there =
      run_at e (width_of wides) u (2 + width_of wides) (byte 0 u) index at
      (list_enough e u (byte 0 u) wides (width_of wides) refl b refl r.listed) l (q ∙ rw b refl)

  pub place_in : at ≤ length u
  place_in = run_inside there

  -- the entries from there on
  module _ (k : ℕ) (a : k ≡ byte 0 u) where
    pub others_enough : enough e (width_of wides) u (k - index) at ≡ true
    unfolding count_of
    others_enough = rw a (run_left e (width_of wides) u (2 + width_of wides) (count_of u) index at there)

    pub others_is : bare (placed_in e (width_of wides) u (k - index) at) ≡ drop index (entries e u)
    unfolding count_of
    others_is =
        let W : ℕ = width_of wides in
        let m : index ≤ k = omega arith in
        bare_is e W u (k - index) at ∙ ap (entries_in e W u (k - index)) there.place ∙ sym (entries_drop e W u index k (2 + W) m) ∙ ap (drop index) (sym (entries_is e u k wides W a b refl))

    pub others_room : (after o T : ℕ) → o + length (entries_bytes e (width_of after) (drop index (entries e u))) ≤ T
        → o + length (entries_bytes e (width_of after) (bare (placed_in e (width_of wides) u (k - index) at))) ≤ T
    others_room after o T h = rw others_is h

    pub others_bytes : (after o : ℕ) (t t₁ : List ℕ) → t₁ ≡ put t o (entries_bytes e (width_of after) (bare (placed_in e (width_of wides) u (k - index) at)))
        → t₁ ≡ put t o (entries_bytes e (width_of after) (drop index (entries e u)))
    others_bytes after o t t₁ h = h ∙ ap (λ (xs : List SfEntry). put t o (entries_bytes e (width_of after) xs)) others_is

    pub others_end : (after o z : ℕ) → z ≡ o + length (entries_bytes e (width_of after) (bare (placed_in e (width_of wides) u (k - index) at)))
        → z ≡ o + length (entries_bytes e (width_of after) (drop index (entries e u)))
    others_end after o z h = h ∙ ap (λ (xs : List SfEntry). o + length (entries_bytes e (width_of after) xs)) others_is

-- the entry at a place, and the next one
module _ (e : Edition) (u : List ℕ) (wides index at : ℕ) (b : wides ≡ byte 1 u) (r : Readable e u) (l : index < count_of u) (q : at ≡ place_of e index u) where
  at_hand : Run e (width_of wides) u (2 + width_of wides) (count_of u) index at
  at_hand = there e u wides index at b r (omega arith) q

  pub place_one : enough e (width_of wides) u 1 at ≡ true
  place_one = run_one e (width_of wides) u (2 + width_of wides) (count_of u) index at at_hand l

  pub place_next : (n v : ℕ) → n ≡ byte at u → v ≡ e.ftype + width_of wides → at + 3 + n + v ≡ place_of e (index + 1) u
  place_next n v e₀ f =
      place_is e u wides (width_of wides) (index + 1) (at + 3 + n + v) b refl (run_on e (width_of wides) u (2 + width_of wides) (count_of u) index at n v at_hand l e₀ f).place

-- the first entries
module _ (e : Edition) (u : List ℕ) (wides w index : ℕ) (b : wides ≡ byte 1 u) (c : w ≡ width_of wides) (l : index ≤ count_of u) where
  first_is : bare (placed_in e (width_of wides) u index (2 + w)) ≡ take index (entries e u)
  unfolding count_of
  first_is = bare_is e (width_of wides) u index (2 + w) ∙ sym (ap (take index) (entries_is e u (byte 0 u) wides w refl b c) ∙ entries_take e (width_of wides) u index (byte 0 u) (2 + w) l)

  pub first_enough : Readable e u → enough e (width_of wides) u index (2 + w) ≡ true
  unfolding count_of
  first_enough r = enough_fewer e (width_of wides) u index (byte 0 u) (2 + w) l (list_enough e u (byte 0 u) wides w refl b c r.listed)

  pub first_room : (after o T : ℕ) → o + length (entries_bytes e (width_of after) (take index (entries e u))) ≤ T
      → o + length (entries_bytes e (width_of after) (bare (placed_in e (width_of wides) u index (2 + w)))) ≤ T
  first_room after o T h = rw first_is h

  pub first_bytes : (after o : ℕ) (t t₁ : List ℕ) → t₁ ≡ put t o (entries_bytes e (width_of after) (bare (placed_in e (width_of wides) u index (2 + w))))
      → t₁ ≡ put t o (entries_bytes e (width_of after) (take index (entries e u)))
  first_bytes after o t t₁ h = h ∙ ap (λ (xs : List SfEntry). put t o (entries_bytes e (width_of after) xs)) first_is

  pub first_end : (after o z : ℕ) → z ≡ o + length (entries_bytes e (width_of after) (bare (placed_in e (width_of wides) u index (2 + w))))
      → z ≡ o + length (entries_bytes e (width_of after) (take index (entries e u)))
  first_end after o z h = h ∙ ap (λ (xs : List SfEntry). o + length (entries_bytes e (width_of after) xs)) first_is
