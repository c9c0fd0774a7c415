use Prim.Native.Nat.{◌/◌}
use native.Mathlib.Omega.{arith}
use mathlib.Core.Path.{◌∙◌}
use Rattle.dir_block_laws.proofs.SlotSearch.{slots_room}
use Rattle.dir_block_laws.proofs.InsertStores.{done_b}
use Rattle.dir_block_index.proofs.LiveSlotsPacked.{live_count, few_stale}
use Rattle.dir_block_edit.proofs.insert_b.Goals as goal

pub overflow_mul-stale : goal.overflow_mul-stale
overflow_mul-stale c =
    omega (arith, slots_room _ c.args.b.now c.requires.sane.0 c.requires.sane.1, c.requires.end_value, c.requires.spot, c.requires.name_len_bound, c.requires.header_le_u, few_stale _ c.requires.sane.0 c.args.b.now c.requires.sane.1 c.args.end c.args.count c.args.stale c.args.p c.args.new.hash (c.args.last.at / 8) c.requires.end_value.0 c.requires.end_value.1.0 c.requires.end_value.1.1.0 c.requires.end_value.1.1.1 c.requires.spot)

pub overflow_add-last-2 : goal.overflow_add-last-2
overflow_add-last-2 c =
    omega (arith, slots_room _ c.args.b.now c.requires.sane.0 c.requires.sane.1, c.requires.end_value, c.requires.spot, c.requires.name_len_bound, c.requires.header_le_u, few_stale _ c.requires.sane.0 c.args.b.now c.requires.sane.1 c.args.end c.args.count c.args.stale c.args.p c.args.new.hash (c.args.last.at / 8) c.requires.end_value.0 c.requires.end_value.1.0 c.requires.end_value.1.1.0 c.requires.end_value.1.1.1 c.requires.spot)

pub put_first-requires : goal.put_first-requires
put_first-requires c =
    record { sane = c.requires.sane.0; name_len_bound = omega (arith, slots_room _ c.args.b.now c.requires.sane.0 c.requires.sane.1, c.requires.end_value, c.requires.spot, c.requires.name_len_bound, c.requires.header_le_u, few_stale _ c.requires.sane.0 c.args.b.now c.requires.sane.1 c.args.end c.args.count c.args.stale c.args.p c.args.new.hash (c.args.last.at / 8) c.requires.end_value.0 c.requires.end_value.1.0 c.requires.end_value.1.1.0 c.requires.end_value.1.1.1 c.requires.spot) }

pub returns : goal.returns
returns c =
    let t = c.requires.header_le_u in
    done_b _ c.args.b.now c.args.new.name.now c.requires.sane.1 c.args.new.to c.args.new.hash (c.args.last.at / 8) c.args.last.at c.args.last.len
    c.args.stale _ _ (t.1.0 ∙ c.requires.end_value.0) c.requires.end_value.1.1.0 c.requires.end_value.1.1.1 c.requires.name_len_bound.1 t.1.1
    (live_count _ c.requires.sane.0 c.args.b.now c.requires.sane.1 c.args.end c.args.count c.args.stale c.args.p c.args.new.hash (c.args.last.at / 8) c.requires.end_value.0 c.requires.end_value.1.0 c.requires.end_value.1.1.0 c.requires.end_value.1.1.1 c.requires.spot ∙ c.requires.end_value.1.0)
    c.squeeze.ensures c.put_first.ensures
