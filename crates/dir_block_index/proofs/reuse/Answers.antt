use Prim.Native.Nat.{◌-◌}
use native.Mathlib.Omega.{arith}
use Rattle.dir_block_laws.proofs.SlotSearch.{slots_room}
use Rattle.dir_block_laws.proofs.IndexStores.{reuse_index, stale_some}
use Rattle.dir_block_index.proofs.reuse.Goals as goal

pub overflow_sub-n : goal.overflow_sub-n
overflow_sub-n c =
    omega (arith, slots_room _ c.args.b.now c.requires.sane.0 c.requires.sane.1, c.requires.end_value, c.requires.spot)

pub put_slot-requires : goal.put_slot-requires
put_slot-requires c =
    omega (arith, slots_room _ c.args.b.now c.requires.sane.0 c.requires.sane.1, c.requires.end_value, c.requires.spot)

pub returns : goal.returns
returns c =
    reuse_index _ c.args.b.now c.requires.sane.1 c.args.count (c.args.stale - 1) c.args.h c.args.a _ _ c.requires.end_value.1.0 (omega (arith, c.requires.end_value, c.requires.spot, stale_some _ c.requires.sane.0 c.args.b.now c.requires.sane.1)) c.move_one.ensures c.put_slot.ensures
