-- What a change's stores leave, before its best-gap table is written: the definition's writes, and a tiled block.
-- Assumes nothing.
use Prim.Native.Nat.{ℕ, zero, suc, ◌+◌, ◌-◌, ◌*◌, ◌≤◌}
use native.Mathlib.Omega.{arith}
use mathlib.Core.Bool.{true, false, ◌&&◌}
use mathlib.Core.Path.{◌≡◌, refl, sym, ◌∙◌, ap, ap₂, subst}
use mathlib.Core.List.{List, [], ◌∷◌, ◌++◌}
use lib.Dec.{leb}
use lib.ListN.{length, take, drop}
use lib.Seq.{drop-drop}
use borrow.Author.Tests.{leb-true}
use Rattle.be.specs.Lists.{every}
use Rattle.be.specs.Bytes.{bytes, be, part, field, put, to_be, write, Write, written}
use Rattle.edition.specs.declared.Edition.{Edition}
use Rattle.edition.specs.Edition.{entry_size, Sane}
use Rattle.dir_block_rules.specs.Record.{cut, whole, gaps, gap_writes}
use Rattle.dir_block_rules.specs.Block.{records, data_end, count_of, stale_of}
use Rattle.name.specs.Name.{fixed_name}
use Rattle.dir_block_rules.specs.Lookup.{sought}
use Rattle.dir_block_rules.specs.Verdict.{Accepted, span_ok, size_ok, tile_ok}
use Rattle.dir_block_rules.specs.Change.{gap_start_before, gap_end_after, with_best, changed, pair_bytes, best_of, remove_writes}
use Rattle.be.proofs.Bools.{and_left}
use Rattle.be.proofs.Writes.{length_put, put_next, drop_put}
use Rattle.be.proofs.Numbers.{length_to_be}
use Rattle.dir_block_rules.proofs.WritesLeave.{written_append}
use Rattle.dir_block_rules.proofs.GoodParts.{block_bound, length_pair_bytes, length_best}
use Rattle.dir_block_rules.proofs.Acceptance.{Passed, passed}
use Rattle.dir_block_rules.proofs.WholeRecords.{tile_whole}
use Rattle.be.proofs.BytesStay.{bytes_written}
use Rattle.dir_block_rules.proofs.StaysBytes.{all_remove}
use Rattle.dir_block_rules.proofs.LookupFinds.{removed_of}
use Rattle.dir_block_rules.proofs.Sealing.{seals, unsealed}
use Rattle.dir_block_laws.specs.Tiled.{Tiled, Ready}

-- two blocks as long that differ in their headers alone: what stands behind is read alike
module _ (e : Edition) (w v : List ℕ) (long_same : length v ≡ length w) (same_behind : drop e.header v ≡ drop e.header w) where
  behind_header : (k : ℕ) → e.header ≤ k → drop k v ≡ drop k w
  behind_header k h =
      let m : e.header + (k - e.header) ≡ k = omega arith in
      ap (λ (n : ℕ). drop n v) (sym m) ∙ sym (drop-drop (k - e.header) e.header v) ∙ ap (drop (k - e.header)) same_behind
      ∙ drop-drop (k - e.header) e.header w ∙ ap (λ (n : ℕ). drop n w) m

  module _ (by : bytes w ≡ true) (sz : size_ok v ≡ true) (sp : span_ok e v ≡ true) (tl : tile_ok e v ≡ true) where
    span_least : e.header + 8 * count_of v + 8 ≤ length w
    unfolding span_ok
    span_least = rw long_same at (leb-true (e.header + 8 * count_of v + 8) (length v) (and_left _ _ sp))

    count_same : count_of v ≡ count_of w
    unfolding count_of
    count_same =
        ap (λ (n : ℕ). field (n - 8) 4 v) long_same
        ∙ ap (λ (l : List ℕ). be (take 4 l)) (behind_header (length w - 8) (omega (arith, span_least)))

    stale_same : stale_of v ≡ stale_of w
    unfolding stale_of
    stale_same =
        ap (λ (n : ℕ). field (n - 4) 4 v) long_same
        ∙ ap (λ (l : List ℕ). be (take 4 l)) (behind_header (length w - 4) (omega (arith, span_least)))

    end_same : data_end v ≡ data_end w
    unfolding data_end
    end_same = ap₂ (λ (n c : ℕ). n - 8 - 8 * c) long_same count_same

    pub records_same : records e v ≡ records e w
    unfolding records
    records_same =
        ap₂ (λ (n m : ℕ). cut e n e.header (part e.header (m - e.header) v)) long_same end_same
        ∙ ap (λ (l : List ℕ). cut e (length w) e.header (take (data_end w - e.header) l)) same_behind

    -- from SIZE, SPAN and TILE of the one the other is tiled
    pub tiled_written : Tiled e w
    unfolding size_ok span_ok
    tiled_written =
        record {
          are_bytes = by;
          short = subst (λ (n : ℕ). n ≤ 65536) long_same (block_bound (length v) sz);
          span = ap₂ (λ (c n : ℕ). leb (e.header + 8 * c + 8) n && leb (stale_of w) c) (sym count_same) (sym long_same)
              ∙ ap (λ (s : ℕ). leb (e.header + 8 * count_of v + 8) (length v) && leb s (count_of v)) (sym stale_same) ∙ sp;
          wholes = ap (every (whole e)) (sym records_same) ∙ tile_whole e v tl;
        }

-- the best-gap table and the seal stand in the header
module _ (e : Edition) (sane : Sane e) (b : List ℕ) (ws : List Write) where
  changed_long : length (changed e b ws) ≡ length (written b ws)
  unfolding changed with_best written
  changed_long =
      (seals e sane (with_best e (written b ws))).long ∙ length_put (written b ws) e.best (pair_bytes (best_of 3 (gaps (records e (written b ws)))))

  changed_behind : drop e.header (changed e b ws) ≡ drop e.header (written b ws)
  unfolding changed with_best written
  changed_behind =
      (seals e sane (with_best e (written b ws))).behind
      ∙ drop_put (written b ws) e.header e.best (pair_bytes (best_of 3 (gaps (records e (written b ws)))))
      (omega (arith, length_pair_bytes (best_of 3 (gaps (records e (written b ws)))), length_best 3 (gaps (records e (written b ws))), sane.best_inside))

  -- what a change's writes leave is tiled if the whole change is accepted
  pub tiled_changed : bytes (written b ws) ≡ true → Accepted e (changed e b ws) → Tiled e (written b ws)
  tiled_changed by a =
      let p : Passed e (changed e b ws) = passed e (changed e b ws) a in
      tiled_written e (written b ws) (changed e b ws) changed_long changed_behind by p.size p.span p.tile

  -- and the table changes no record
  pub records_changed : bytes (written b ws) ≡ true → Accepted e (changed e b ws) → records e (changed e b ws) ≡ records e (written b ws)
  records_changed by a =
      let p : Passed e (changed e b ws) = passed e (changed e b ws) a in
      records_same e (written b ws) (changed e b ws) changed_long changed_behind by p.size p.span p.tile

  -- the code's stores: the writes, then the table
  pub stores_changed : (c d : List ℕ) → c ≡ written b ws → d ≡ with_best e c → d ≡ changed e b ws
  unfolding changed
  stores_changed c d p q = q ∙ ap (with_best e) p ∙ sym (unsealed e (with_best e (written b ws)))

mark : to_be 2 65535 ≡ 255 ∷ 255 ∷ []
unfolding to_be
mark = refl

-- the stores of a gap
pub gap_stores : (o n : ℕ) (b b₁ b₂ b₃ : List ℕ) → (n ≡ 0 → ⊥)
    → b₁ ≡ put b o (to_be 2 65535) → b₂ ≡ put b₁ (o + 2) (to_be 2 n) → b₃ ≡ put b₂ (o + n - 2) (to_be 2 o) → b₃ ≡ written b (gap_writes o n)
unfolding gap_writes written
gap_stores o zero b b₁ b₂ b₃ h e₁ e₂ e₃ = absurd (h refl)
gap_stores o (suc n) b b₁ b₂ b₃ h e₁ e₂ e₃ =
    let m : to_be 2 65535 ≡ 255 ∷ 255 ∷ [] = mark in
    let w : put (put b o (to_be 2 65535)) (o + 2) (to_be 2 (suc n)) ≡ put b o (to_be 2 65535 ++ to_be 2 (suc n)) =
    put_next b (o + 2) o (to_be 2 65535) (to_be 2 (suc n)) (ap (λ (k : ℕ). o + k) (length_to_be 2 65535)) in
    rw (e₃, e₂, e₁, w, m) refl

pub no_gap_stores : (o n : ℕ) (b : List ℕ) → n ≡ 0 → b ≡ written b (gap_writes o n)
unfolding gap_writes written
no_gap_stores o zero b h = refl
no_gap_stores o (suc n) b h = absurd (omega arith)

-- the stores of a removal
module _ (e : Edition) (b n : List ℕ) where
  pub remove_stores : (end index at o u m k st : ℕ) (b₁ b₂ b₃ : List ℕ)
      → (sought e b n).index ≡ index → (sought e b n).at ≡ at → end ≡ data_end b → st ≡ stale_of b → k ≡ length b - 4
      → m ≡ at + entry_size e (length n)
      → o ≡ gap_start_before at (gaps (records e b)) → u ≡ gap_end_after m (gaps (records e b))
      → b₁ ≡ written b (gap_writes o (u - o)) → b₂ ≡ put b₁ (end + 8 * index + 4) (to_be 4 0) → b₃ ≡ put b₂ k (to_be 4 (st + 1))
      → b₃ ≡ written b (remove_writes e b n)
  unfolding remove_writes written
  remove_stores end index at o u m k st b₁ b₂ b₃ p q r s t w x y e₁ e₂ e₃ =
      let f = sought e b n in
      let ws : List Write = gap_writes (gap_start_before f.at (gaps (records e b))) (gap_end_after (f.at + entry_size e (length n)) (gaps (records e b)) - gap_start_before f.at (gaps (records e b))) in
      let oo : o ≡ gap_start_before f.at (gaps (records e b)) = x ∙ ap (λ (z : ℕ). gap_start_before z (gaps (records e b))) (sym q) in
      let uu : u ≡ gap_end_after (f.at + entry_size e (length n)) (gaps (records e b)) = y ∙ ap (λ (z : ℕ). gap_end_after z (gaps (records e b))) (w ∙ ap (λ (z : ℕ). z + entry_size e (length n)) (sym q)) in
      e₃ ∙ ap (λ (l : List ℕ). put l k (to_be 4 (st + 1))) (e₂ ∙ ap (λ (l : List ℕ). put l (end + 8 * index + 4) (to_be 4 0)) e₁)
      ∙ ap₂ (λ (i j : ℕ). put (put (written b (gap_writes i (j - i))) (end + 8 * index + 4) (to_be 4 0)) k (to_be 4 (st + 1))) oo uu
      ∙ ap₂ (λ (i j : ℕ). put (put (written b ws) (i + 8 * j + 4) (to_be 4 0)) k (to_be 4 (st + 1))) r (sym p)
      ∙ ap₂ (λ (i j : ℕ). put (put (written b ws) (data_end b + 8 * f.index + 4) (to_be 4 0)) i (to_be 4 (j + 1))) t s
      ∙ sym (written_append b ws (write (data_end b + 8 * f.index + 4) (to_be 4 0) ∷ write (length b - 4) (to_be 4 (stale_of b + 1)) ∷ []))

  pub remove_tiled : (sane : Sane e) → Ready e b → (sought e b n).hit ≡ true → fixed_name n ≡ false → Tiled e (written b (remove_writes e b n))
  remove_tiled sane r h x =
      tiled_changed e sane b (remove_writes e b n) (bytes_written b (remove_writes e b n) r.are_bytes (all_remove e b n))
      (removed_of e sane b r.are_bytes r.ok n h x).accepted
