use Prim.Native.Nat.{ℕ, ◌+◌}
use native.Mathlib.Omega.{arith}
use mathlib.Core.Bool.{true, false}
use mathlib.Core.Path.{◌≡◌, sym, ◌∙◌, ap, subst}
use mathlib.Core.List.{List, [], ◌∷◌}
use lib.ListN.{length}
use Rattle.be.specs.Bytes.{written}
use Rattle.edition.specs.declared.Edition.{Edition}
use Rattle.edition.specs.Edition.{entry_size, Sane}
use Rattle.name.specs.Name.{fixed_name}
use Rattle.dir_block_rules.specs.Record.{gaps}
use Rattle.dir_block_rules.specs.Block.{records}
use Rattle.dir_block_rules.specs.Lookup.{sought}
use Rattle.dir_block_rules.specs.Verdict.{Pair, best_pairs}
use Rattle.dir_block_rules.specs.Change.{best_of, gap_start_before, gap_end_after, remove_writes}
use Rattle.dir_block_laws.specs.Tiled.{Tiled, Ready}
use Rattle.dir_block_laws.specs.JoinedTable.{joined_table, in_order}
use Rattle.dir_block_laws.proofs.RecordSteps.{head_end, end_fits}
use Rattle.dir_block_laws.proofs.SlotSearch.{tiled}
use Rattle.dir_block_laws.proofs.StoresTiled.{remove_tiled, stores_changed}
use Rattle.dir_block_laws.proofs.JoinedGaps.{from_stored}
use Rattle.dir_block_edit.proofs.remove_found.Goals as goal

-- what the code knows of the block c that is left, from the pairs stored in b
module _ (e : Edition) (sane : Sane e) (b n : List ℕ) (r : Ready e b) (hit : (sought e b n).hit ≡ true) (fx : fixed_name n ≡ false)
    (c : List ℕ) (w : c ≡ written b (remove_writes e b n)) where
  left-tiled : Tiled e c
  left-tiled = subst (λ (l : List ℕ). Tiled e l) (sym w) (remove_tiled e b n sane r hit fx)

  left-best : (at o u : ℕ) (p q t : Pair) → (sought e b n).at ≡ at → p ∷ q ∷ t ∷ [] ≡ best_pairs e b
      → o ≡ gap_start_before at (gaps (records e b)) → u ≡ gap_end_after (at + entry_size e (length n)) (gaps (records e b))
      → t.long ≡ 0 → best_of 3 (gaps (records e c)) ≡ joined_table o u (in_order p q)
  left-best at o u p q t a s i j z =
      ap (λ (l : List ℕ). best_of 3 (gaps (records e l))) w
      ∙ from_stored e sane b n r hit fx o u p q t s z (i ∙ ap (λ (k : ℕ). gap_start_before k (gaps (records e b))) (sym a))
      (j ∙ ap (λ (k : ℕ). gap_end_after (k + entry_size e (length n)) (gaps (records e b))) (sym a))

pub stored-s-requires : goal.stored-s-requires
stored-s-requires c =
    let t = tiled _ c.args.b.now c.requires.sane.1 in
    (c.requires.sane.0, omega (arith, head_end _ c.args.b.now t, end_fits _ c.args.b.now t))

pub joined_table-requires : goal.joined_table-requires
joined_table-requires c =
    let f = c.free_entry-g.ensures in
    let b = c.args.b.now in
    let n = c.args.name.now in record {
      sane = (c.requires.sane.0, left-tiled _ c.requires.sane.0 b n c.requires.sane.1 c.requires.name_value.0 c.requires.name_value_2 _ f.b_after);
      o_le_u = f.start_le_end.0;
      b_value = left-best _ c.requires.sane.0 b n c.requires.sane.1 c.requires.name_value.0 c.requires.name_value_2 _ f.b_after c.args.at _ _ _ _ _
          c.requires.name_value.1.1 c.stored-s.ensures f.start_le_end.1.0 f.start_le_end.1.1;
    }

pub returns : goal.returns
returns c =
    stores_changed _ c.requires.sane.0 _ _ _ _ c.free_entry-g.ensures.b_after c.joined_table.ensures
