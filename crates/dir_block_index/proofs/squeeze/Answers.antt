use native.Mathlib.Omega.{arith}
use Rattle.dir_block_laws.proofs.SlotSearch.{slots_room}
use Rattle.dir_block_index.proofs.LiveSlotsPacked.{squeezed, squeeze_room, first_room, few_stale}
use Rattle.dir_block_index.proofs.squeeze.Goals as goal

pub overflow_mul-p : goal.overflow_mul-p
overflow_mul-p c =
    omega (arith, slots_room _ c.args.b.now c.requires.sane.0 c.requires.sane.1, c.requires.end_value, c.requires.spot)

pub overflow_add-end : goal.overflow_add-end
overflow_add-end c =
    omega (arith, slots_room _ c.args.b.now c.requires.sane.0 c.requires.sane.1, c.requires.end_value, c.requires.spot)

pub overflow_sub-n : goal.overflow_sub-n
overflow_sub-n c =
    omega (arith, slots_room _ c.args.b.now c.requires.sane.0 c.requires.sane.1, c.requires.end_value, c.requires.spot)

pub pack-w1-requires : goal.pack-w1-requires
pack-w1-requires c =
    omega (arith, slots_room _ c.args.b.now c.requires.sane.0 c.requires.sane.1, c.requires.end_value, c.requires.spot)

pub pack-w2-requires : goal.pack-w2-requires
pack-w2-requires c =
    omega (arith, slots_room _ c.args.b.now c.requires.sane.0 c.requires.sane.1, c.requires.end_value, c.requires.spot, first_room _ c.requires.sane.0 c.args.b.now c.requires.sane.1 c.args.end c.args.count c.args.stale c.args.p c.args.h c.args.a c.requires.end_value.0 c.requires.end_value.1.0 c.requires.end_value.1.1.0 c.requires.end_value.1.1.1 c.requires.spot c.pack-w1.result c.pack-w1.ensures.1)

pub overflow_sub-w2 : goal.overflow_sub-w2
overflow_sub-w2 c =
    omega (arith, slots_room _ c.args.b.now c.requires.sane.0 c.requires.sane.1, c.requires.end_value, c.requires.spot, squeeze_room _ c.requires.sane.0 c.args.b.now c.requires.sane.1 c.args.end c.args.count c.args.stale c.args.p c.args.h c.args.a c.requires.end_value.0 c.requires.end_value.1.0 c.requires.end_value.1.1.0 c.requires.end_value.1.1.1 c.requires.spot c.pack-w1.result c.pack-w2.result _ c.pack-w1.ensures.0 c.pack-w1.ensures.1 c.pack-w2.ensures.1)

pub overflow_sub-w1-2 : goal.overflow_sub-w1-2
overflow_sub-w1-2 c =
    omega (arith, slots_room _ c.args.b.now c.requires.sane.0 c.requires.sane.1, c.requires.end_value, c.requires.spot, squeeze_room _ c.requires.sane.0 c.args.b.now c.requires.sane.1 c.args.end c.args.count c.args.stale c.args.p c.args.h c.args.a c.requires.end_value.0 c.requires.end_value.1.0 c.requires.end_value.1.1.0 c.requires.end_value.1.1.1 c.requires.spot c.pack-w1.result c.pack-w2.result _ c.pack-w1.ensures.0 c.pack-w1.ensures.1 c.pack-w2.ensures.1)

pub put_slot-requires : goal.put_slot-requires
put_slot-requires c =
    omega (arith, slots_room _ c.args.b.now c.requires.sane.0 c.requires.sane.1, c.requires.end_value, c.requires.spot, squeeze_room _ c.requires.sane.0 c.args.b.now c.requires.sane.1 c.args.end c.args.count c.args.stale c.args.p c.args.h c.args.a c.requires.end_value.0 c.requires.end_value.1.0 c.requires.end_value.1.1.0 c.requires.end_value.1.1.1 c.requires.spot c.pack-w1.result c.pack-w2.result _ c.pack-w1.ensures.0 c.pack-w1.ensures.1 c.pack-w2.ensures.1)

pub overflow_sub-n-2 : goal.overflow_sub-n-2
overflow_sub-n-2 c =
    omega (arith, slots_room _ c.args.b.now c.requires.sane.0 c.requires.sane.1, c.requires.end_value, c.requires.spot, few_stale _ c.requires.sane.0 c.args.b.now c.requires.sane.1 c.args.end c.args.count c.args.stale c.args.p c.args.h c.args.a c.requires.end_value.0 c.requires.end_value.1.0 c.requires.end_value.1.1.0 c.requires.end_value.1.1.1 c.requires.spot)

pub overflow_sub-count-2 : goal.overflow_sub-count-2
overflow_sub-count-2 c =
    omega (arith, slots_room _ c.args.b.now c.requires.sane.0 c.requires.sane.1, c.requires.end_value, c.requires.spot, few_stale _ c.requires.sane.0 c.args.b.now c.requires.sane.1 c.args.end c.args.count c.args.stale c.args.p c.args.h c.args.a c.requires.end_value.0 c.requires.end_value.1.0 c.requires.end_value.1.1.0 c.requires.end_value.1.1.1 c.requires.spot)

pub put_slot-requires-2 : goal.put_slot-requires-2
put_slot-requires-2 c =
    omega (arith, slots_room _ c.args.b.now c.requires.sane.0 c.requires.sane.1, c.requires.end_value, c.requires.spot, few_stale _ c.requires.sane.0 c.args.b.now c.requires.sane.1 c.args.end c.args.count c.args.stale c.args.p c.args.h c.args.a c.requires.end_value.0 c.requires.end_value.1.0 c.requires.end_value.1.1.0 c.requires.end_value.1.1.1 c.requires.spot)

pub returns : goal.returns
returns c =
    squeezed _ c.requires.sane.0 c.args.b.now c.requires.sane.1 c.args.end c.args.count c.args.stale c.args.p c.args.h c.args.a
    c.requires.end_value.0 c.requires.end_value.1.0 c.requires.end_value.1.1.0 c.requires.end_value.1.1.1 c.requires.spot c.pack-w1.result c.pack-w2.result _ _ _ _
    _ c.pack-w1.ensures.0 c.pack-w1.ensures.1 c.pack-w2.ensures.0 c.pack-w2.ensures.1 c.move_bytes.ensures c.put_slot.ensures
    c.put_slot-2.ensures
