-- T, the gap at the slots, by the tag that ends the last record.
-- Assumes nothing.
use Prim.Native.Nat.{ℕ, ◌+◌, ◌-◌, ◌%◌, ◌≤◌, ◌<◌}
use native.Mathlib.Nat.{add-zero}
use native.Mathlib.Omega.{arith}
use mathlib.Core.Path.{◌≡◌, refl, sym, ◌∙◌, ap, subst}
use mathlib.Core.List.{List, [], ◌∷◌, append-nil}
use lib.ListN.{length, length-append}
use borrow.Author.Tests.{eq-eqb, ne_eqb}
use Rattle.be.specs.Bytes.{field}
use Rattle.be.proofs.Bools.{by_cases}
use Rattle.edition.specs.declared.Edition.{Edition}
use Rattle.dir_block_rules.specs.Record.{Rec, rec, size, is_gap, gaps, join}
use Rattle.dir_block_rules.specs.Block.{records, data_end}
use Rattle.dir_block_rules.specs.Verdict.{Pair}
use Rattle.dir_block_rules.specs.Room.{last_of, touching}
use Rattle.dir_block_rules.specs.Change.{best_of}
use Rattle.dir_block_rules.proofs.CutJoin.{Laid}
use Rattle.dir_block_laws.specs.Tiled.{Tiled}
use Rattle.dir_block_laws.specs.Pass.{Place, Scanned}
use Rattle.dir_block_laws.proofs.RecordSteps.{end_is, end_fits, head_end, laid_all}
use Rattle.dir_block_laws.proofs.RecordPass.{touch_gap, touch_entry}
use Rattle.dir_block_laws.proofs.GapsBeside.{Prior, prior_at}

above : (h o : ℕ) → h ≤ o → (o ≡ h → ⊥) → h < o
above h o l f = omega arith

touch_nothing : (o : ℕ) → touching o [] ≡ rec o []
unfolding touching last_of
touch_nothing o = by_cases (is_gap (rec o [])) (λ q. rw q refl) (λ q. rw q refl)

module _ (e : Edition) (b : List ℕ) (t : Tiled e b) (end : ℕ) (d : end ≡ data_end b) where
  -- the data's end
  abbrev pub end_place : Place e b end
  end_place = record { before = records e b; behind = []; all = sym (append-nil (records e b)); place = sym (end_is e b t) ∙ sym d }

  -- the last record, if there is one
  pub last_at : (p : ℕ) → (end ≡ e.header → ⊥) → field (end - 2) 2 b ≡ p → Prior e b t end end_place p
  last_at p h f = prior_at e b t end end_place p (above e.header end (omega (arith, head_end e b t)) h) f

  pub last_fits : (p : ℕ) → Prior e b t end end_place p → (p + 8 ≤ end) × (end + 8 ≤ length b)
  last_fits p r = (omega (arith, r.ends, r.at_it.is_whole.least), omega (arith, end_fits e b t))

  module _ (ps : List Pair) (best : best_of (length ps) (gaps (records e b)) ≡ ps) where
    -- no gap at the slots
    without : touching (data_end b) (records e b) ≡ rec (data_end b) [] → Scanned e b ps end 0
    without q =
        record {
          best = best;
          touch_off = ap (λ (r : Rec). r.off) q ∙ sym d;
          touch_size = ap (λ (r : Rec). size r) q;
          touch_end = add-zero end ∙ d;
          touch_from = omega (arith, head_end e b t);
          touch_mod = refl;
        }

    pub last_none : end ≡ e.header → Scanned e b ps end 0
    last_none h = go (records e b) refl
      where
        go : (rs : List Rec) → records e b ≡ rs → Scanned e b ps end 0
        go [] q = without (ap (touching (data_end b)) q ∙ touch_nothing (data_end b))
        go (r ∷ rs) q =
            let l : Laid e e.header (r ∷ rs) = subst (λ (m : List Rec). Laid e e.header m) q (laid_all e b t) in
            absurd (omega (arith, end_is e b t, ap (λ (m : List Rec). length (join m)) q, length-append r.raw (join rs), l.1.least))

    pub last_gap : (p : ℕ) → Prior e b t end end_place p → field p 2 b ≡ 65535 → Scanned e b ps p (end - p)
    last_gap p r g =
        let q : touching (data_end b) (records e b) ≡ r.x =
        ap (touching (data_end b)) r.is ∙ touch_gap (data_end b) r.xs r.x (r.at_it.gap_is ∙ eq-eqb (field p 2 b) 65535 g) in
        let n : size r.x ≡ end - p = omega (arith, r.ends) in
        record {
          best = best;
          touch_off = ap (λ (y : Rec). y.off) q ∙ r.at_it.off_is;
          touch_size = ap (λ (y : Rec). size y) q ∙ n;
          touch_end = omega (arith, r.ends);
          touch_from = omega (arith, r.from);
          touch_mod = ap (λ (m : ℕ). m % 8) (sym n) ∙ r.at_it.is_whole.eights;
        }

    pub last_entry : (p : ℕ) → Prior e b t end end_place p → (field p 2 b ≡ 65535 → ⊥) → Scanned e b ps end 0
    last_entry p r g =
        without (ap (touching (data_end b)) r.is ∙ touch_entry (data_end b) r.xs r.x (r.at_it.gap_is ∙ ne_eqb (field p 2 b) 65535 g))
