use native.Mathlib.Omega.{arith}
use Rattle.dir_block_laws.proofs.SlotSearch.{slots_room}
use Rattle.dir_block_laws.proofs.IndexStores.{reuse_down, reuse_up}
use Rattle.dir_block_index.proofs.move_one.Goals as goal

pub overflow_mul-j : goal.overflow_mul-j
overflow_mul-j c =
    omega (arith, slots_room _ c.args.b.now c.requires.sane.0 c.requires.sane.1, c.requires.end_value, c.requires.spot, c.requires.first_stale)

pub overflow_add-end : goal.overflow_add-end
overflow_add-end c =
    omega (arith, slots_room _ c.args.b.now c.requires.sane.0 c.requires.sane.1, c.requires.end_value, c.requires.spot, c.requires.first_stale)

pub overflow_mul-j-then-j-p : goal.overflow_mul-j-then-j-p
overflow_mul-j-then-j-p c =
    omega (arith, slots_room _ c.args.b.now c.requires.sane.0 c.requires.sane.1, c.requires.end_value, c.requires.spot, c.requires.first_stale)

pub overflow_add-end-then-j-p : goal.overflow_add-end-then-j-p
overflow_add-end-then-j-p c =
    omega (arith, slots_room _ c.args.b.now c.requires.sane.0 c.requires.sane.1, c.requires.end_value, c.requires.spot, c.requires.first_stale)

pub overflow_mul-p : goal.overflow_mul-p
overflow_mul-p c =
    omega (arith, slots_room _ c.args.b.now c.requires.sane.0 c.requires.sane.1, c.requires.end_value, c.requires.spot, c.requires.first_stale)

pub move_bytes-requires : goal.move_bytes-requires
move_bytes-requires c =
    omega (arith, slots_room _ c.args.b.now c.requires.sane.0 c.requires.sane.1, c.requires.end_value, c.requires.spot, c.requires.first_stale)

pub overflow_mul-p-then-j-p : goal.overflow_mul-p-then-j-p
overflow_mul-p-then-j-p c =
    omega (arith, slots_room _ c.args.b.now c.requires.sane.0 c.requires.sane.1, c.requires.end_value, c.requires.spot, c.requires.first_stale)

pub overflow_add-end-then-j-p-2 : goal.overflow_add-end-then-j-p-2
overflow_add-end-then-j-p-2 c =
    omega (arith, slots_room _ c.args.b.now c.requires.sane.0 c.requires.sane.1, c.requires.end_value, c.requires.spot, c.requires.first_stale)

pub put_slot-requires : goal.put_slot-requires
put_slot-requires c =
    omega (arith, slots_room _ c.args.b.now c.requires.sane.0 c.requires.sane.1, c.requires.end_value, c.requires.spot, c.requires.first_stale)

pub returns-then-j-p : goal.returns-then-j-p
returns-then-j-p c =
    reuse_down _ c.args.b.now c.requires.sane.1 c.args.end c.args.p c.args.j c.args.h c.args.a _ _ c.requires.end_value c.requires.spot c.requires.first_stale c.if-j-p.true c.move_bytes.ensures c.put_slot.ensures

pub overflow_mul-p-2 : goal.overflow_mul-p-2
overflow_mul-p-2 c =
    omega (arith, slots_room _ c.args.b.now c.requires.sane.0 c.requires.sane.1, c.requires.end_value, c.requires.spot, c.requires.first_stale)

pub overflow_add-end-2 : goal.overflow_add-end-2
overflow_add-end-2 c =
    omega (arith, slots_room _ c.args.b.now c.requires.sane.0 c.requires.sane.1, c.requires.end_value, c.requires.spot, c.requires.first_stale)

pub overflow_mul-p-3 : goal.overflow_mul-p-3
overflow_mul-p-3 c =
    omega (arith, slots_room _ c.args.b.now c.requires.sane.0 c.requires.sane.1, c.requires.end_value, c.requires.spot, c.requires.first_stale)

pub overflow_add-end-3 : goal.overflow_add-end-3
overflow_add-end-3 c =
    omega (arith, slots_room _ c.args.b.now c.requires.sane.0 c.requires.sane.1, c.requires.end_value, c.requires.spot, c.requires.first_stale)

pub overflow_add-end-4 : goal.overflow_add-end-4
overflow_add-end-4 c =
    omega (arith, slots_room _ c.args.b.now c.requires.sane.0 c.requires.sane.1, c.requires.end_value, c.requires.spot, c.requires.first_stale)

pub overflow_mul-j-2 : goal.overflow_mul-j-2
overflow_mul-j-2 c =
    omega (arith, slots_room _ c.args.b.now c.requires.sane.0 c.requires.sane.1, c.requires.end_value, c.requires.spot, c.requires.first_stale)

pub move_bytes-requires-2 : goal.move_bytes-requires-2
move_bytes-requires-2 c =
    omega (arith, slots_room _ c.args.b.now c.requires.sane.0 c.requires.sane.1, c.requires.end_value, c.requires.spot, c.requires.first_stale)

pub overflow_mul-p-4 : goal.overflow_mul-p-4
overflow_mul-p-4 c =
    omega (arith, slots_room _ c.args.b.now c.requires.sane.0 c.requires.sane.1, c.requires.end_value, c.requires.spot, c.requires.first_stale)

pub overflow_add-end-5 : goal.overflow_add-end-5
overflow_add-end-5 c =
    omega (arith, slots_room _ c.args.b.now c.requires.sane.0 c.requires.sane.1, c.requires.end_value, c.requires.spot, c.requires.first_stale)

pub put_slot-requires-2 : goal.put_slot-requires-2
put_slot-requires-2 c =
    omega (arith, slots_room _ c.args.b.now c.requires.sane.0 c.requires.sane.1, c.requires.end_value, c.requires.spot, c.requires.first_stale)

pub returns : goal.returns
returns c =
    reuse_up _ c.args.b.now c.requires.sane.1 c.args.end c.args.p c.args.j c.args.h c.args.a _ _ c.requires.end_value c.requires.spot c.requires.first_stale c.if-j-p.false c.move_bytes-2.ensures c.put_slot-2.ensures
