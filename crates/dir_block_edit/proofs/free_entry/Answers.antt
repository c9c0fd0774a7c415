use Prim.Native.Nat.{ℕ, ◌+◌}
use native.Mathlib.Omega.{arith}
use mathlib.Core.Path.{refl, ◌∙◌, ap}
use Rattle.edition.specs.Edition.{entry_size}
use Rattle.dir_block_rules.specs.Record.{gaps}
use Rattle.dir_block_rules.specs.Block.{records}
use Rattle.dir_block_rules.specs.Change.{gap_end_after}
use Rattle.dir_block_laws.proofs.RecordSteps.{stale_read}
use Rattle.dir_block_laws.proofs.SlotSearch.{tiled}
use Rattle.dir_block_laws.proofs.GapsBeside.{entry_found, long_found, found_room}
use Rattle.dir_block_laws.proofs.StoresTiled.{remove_stores}
use Rattle.dir_block_edit.proofs.free_entry.Goals as goal

pub overflow_add-at : goal.overflow_add-at
overflow_add-at c =
    omega (arith, found_room _ c.requires.sane.0 c.args.b.now c.args.name.now c.args.end c.args.slot c.args.at c.requires.sane.1 c.requires.name_value.0 c.requires.name_value.1.0 c.requires.name_value.1.1 c.requires.end_value)

pub be8-k-requires : goal.be8-k-requires
be8-k-requires c =
    omega (arith, found_room _ c.requires.sane.0 c.args.b.now c.args.name.now c.args.end c.args.slot c.args.at c.requires.sane.1 c.requires.name_value.0 c.requires.name_value.1.0 c.requires.name_value.1.1 c.requires.end_value)

pub overflow_add-m : goal.overflow_add-m
overflow_add-m c =
    omega (arith, found_room _ c.requires.sane.0 c.args.b.now c.args.name.now c.args.end c.args.slot c.args.at c.requires.sane.1 c.requires.name_value.0 c.requires.name_value.1.0 c.requires.name_value.1.1 c.requires.end_value)

pub joined_start-o-requires : goal.joined_start-o-requires
joined_start-o-requires c =
    record { sane = (c.requires.sane.0, tiled _ c.args.b.now c.requires.sane.1); entry_at = entry_found _ c.requires.sane.0 c.args.b.now c.args.name.now c.args.at c.requires.sane.1 c.requires.name_value.0 c.requires.name_value.1.1 }

pub joined_end-u-requires : goal.joined_end-u-requires
joined_end-u-requires c =
    record { sane = (c.requires.sane.0, tiled _ c.args.b.now c.requires.sane.1); entry_at = entry_found _ c.requires.sane.0 c.args.b.now c.args.name.now c.args.at c.requires.sane.1 c.requires.name_value.0 c.requires.name_value.1.1; end_value = (c.requires.end_value, ap (λ (k : ℕ). c.args.at + k) (c.entry_size.ensures.0 ∙ ap (entry_size c.args.e) c.be8-k.ensures.0)) }

pub overflow_sub-n : goal.overflow_sub-n
overflow_sub-n c =
    omega (arith, found_room _ c.requires.sane.0 c.args.b.now c.args.name.now c.args.end c.args.slot c.args.at c.requires.sane.1 c.requires.name_value.0 c.requires.name_value.1.0 c.requires.name_value.1.1 c.requires.end_value)

pub be32-s-requires : goal.be32-s-requires
be32-s-requires c =
    omega (arith, found_room _ c.requires.sane.0 c.args.b.now c.args.name.now c.args.end c.args.slot c.args.at c.requires.sane.1 c.requires.name_value.0 c.requires.name_value.1.0 c.requires.name_value.1.1 c.requires.end_value)

pub put_gap-requires : goal.put_gap-requires
put_gap-requires c =
    omega (arith, found_room _ c.requires.sane.0 c.args.b.now c.args.name.now c.args.end c.args.slot c.args.at c.requires.sane.1 c.requires.name_value.0 c.requires.name_value.1.0 c.requires.name_value.1.1 c.requires.end_value)

pub overflow_mul-slot : goal.overflow_mul-slot
overflow_mul-slot c =
    omega (arith, found_room _ c.requires.sane.0 c.args.b.now c.args.name.now c.args.end c.args.slot c.args.at c.requires.sane.1 c.requires.name_value.0 c.requires.name_value.1.0 c.requires.name_value.1.1 c.requires.end_value)

pub overflow_add-end : goal.overflow_add-end
overflow_add-end c =
    omega (arith, found_room _ c.requires.sane.0 c.args.b.now c.args.name.now c.args.end c.args.slot c.args.at c.requires.sane.1 c.requires.name_value.0 c.requires.name_value.1.0 c.requires.name_value.1.1 c.requires.end_value)

pub overflow_add-end-2 : goal.overflow_add-end-2
overflow_add-end-2 c =
    omega (arith, found_room _ c.requires.sane.0 c.args.b.now c.args.name.now c.args.end c.args.slot c.args.at c.requires.sane.1 c.requires.name_value.0 c.requires.name_value.1.0 c.requires.name_value.1.1 c.requires.end_value)

pub put32-requires : goal.put32-requires
put32-requires c =
    omega (arith, found_room _ c.requires.sane.0 c.args.b.now c.args.name.now c.args.end c.args.slot c.args.at c.requires.sane.1 c.requires.name_value.0 c.requires.name_value.1.0 c.requires.name_value.1.1 c.requires.end_value)

pub overflow_sub-n-2 : goal.overflow_sub-n-2
overflow_sub-n-2 c =
    omega (arith, found_room _ c.requires.sane.0 c.args.b.now c.args.name.now c.args.end c.args.slot c.args.at c.requires.sane.1 c.requires.name_value.0 c.requires.name_value.1.0 c.requires.name_value.1.1 c.requires.end_value)

pub put32-requires-2 : goal.put32-requires-2
put32-requires-2 c =
    omega (arith, found_room _ c.requires.sane.0 c.args.b.now c.args.name.now c.args.end c.args.slot c.args.at c.requires.sane.1 c.requires.name_value.0 c.requires.name_value.1.0 c.requires.name_value.1.1 c.requires.end_value)

pub returns : goal.returns
returns c =
    let m = ap (λ (k : ℕ). c.args.at + k) (c.entry_size.ensures.0 ∙ ap (entry_size c.args.e) (c.be8-k.ensures.0 ∙ long_found _ c.requires.sane.0 c.args.b.now c.args.name.now c.args.at c.requires.sane.1 c.requires.name_value.0 c.requires.name_value.1.1)) in
    let o = c.joined_start-o.ensures in
    let u = c.joined_end-u.ensures in record {
      b_after = remove_stores _ c.args.b.now c.args.name.now c.args.end c.args.slot c.args.at c.joined_start-o.result
          c.joined_end-u.result _ _ c.be32-s.result _ _ _ c.requires.name_value.1.0 c.requires.name_value.1.1 c.requires.end_value
          (stale_read c.args.b.now c.be32-s.result c.be32-s.ensures.0) refl
          m o.0 u.0 c.put_gap.ensures c.put32.ensures c.put32-2.ensures;
      start_le_end = (
        omega (arith, o.1.0, u.1.0),
        (o.0, u.0 ∙ ap (λ (k : ℕ). gap_end_after k (gaps (records c.args.e c.args.b.now))) m),
      );
    }
