use native.Mathlib.Omega.{arith}
use Rattle.dir_block_laws.proofs.SlotSearch.{slots_room}
use Rattle.dir_block_laws.proofs.IndexStores.{grow_index}
use Rattle.dir_block_index.proofs.grow.Goals as goal

pub overflow_mul-i : goal.overflow_mul-i
overflow_mul-i c =
    omega (arith, slots_room _ c.args.b.now c.requires.sane.0 c.requires.sane.1, c.requires.end_value, c.requires.spot)

pub move_bytes-requires : goal.move_bytes-requires
move_bytes-requires c =
    omega (arith, slots_room _ c.args.b.now c.requires.sane.0 c.requires.sane.1, c.requires.end_value, c.requires.spot)

pub overflow_mul-i-2 : goal.overflow_mul-i-2
overflow_mul-i-2 c =
    omega (arith, slots_room _ c.args.b.now c.requires.sane.0 c.requires.sane.1, c.requires.end_value, c.requires.spot)

pub overflow_add-end : goal.overflow_add-end
overflow_add-end c =
    omega (arith, slots_room _ c.args.b.now c.requires.sane.0 c.requires.sane.1, c.requires.end_value, c.requires.spot)

pub put_slot-requires : goal.put_slot-requires
put_slot-requires c =
    omega (arith, slots_room _ c.args.b.now c.requires.sane.0 c.requires.sane.1, c.requires.end_value, c.requires.spot)

pub overflow_sub-n : goal.overflow_sub-n
overflow_sub-n c =
    omega (arith, slots_room _ c.args.b.now c.requires.sane.0 c.requires.sane.1, c.requires.end_value, c.requires.spot)

pub overflow_add-count : goal.overflow_add-count
overflow_add-count c =
    omega (arith, slots_room _ c.args.b.now c.requires.sane.0 c.requires.sane.1, c.requires.end_value, c.requires.spot)

pub put_slot-requires-2 : goal.put_slot-requires-2
put_slot-requires-2 c =
    omega (arith, slots_room _ c.args.b.now c.requires.sane.0 c.requires.sane.1, c.requires.end_value, c.requires.spot)

pub returns : goal.returns
returns c =
    grow_index _ c.args.b.now c.requires.sane.1 c.args.end c.args.count c.args.i c.args.h c.args.a _ _ _ c.requires.end_value.0
    c.requires.end_value.1.0 c.requires.end_value.1.1 c.requires.spot c.move_bytes.ensures c.put_slot.ensures c.put_slot-2.ensures
