use native.Mathlib.Omega.{arith}
use Rattle.dir_block_laws.proofs.RecordSteps.{count_read, stale_read}
use Rattle.dir_block_laws.proofs.SlotSearch.{slots_room, stale_within}
use Rattle.list.proofs.Lines.head.Goals as goal

pub overflow_sub-len : goal.overflow_sub-len
overflow_sub-len c = omega (arith, slots_room _ c.args.b.now c.requires.0 c.requires.1)

pub be32-count-requires : goal.be32-count-requires
be32-count-requires c = omega (arith, slots_room _ c.args.b.now c.requires.0 c.requires.1)

pub overflow_sub-len-2 : goal.overflow_sub-len-2
overflow_sub-len-2 c = omega (arith, slots_room _ c.args.b.now c.requires.0 c.requires.1)

pub be32-stale-requires : goal.be32-stale-requires
be32-stale-requires c = omega (arith, slots_room _ c.args.b.now c.requires.0 c.requires.1)

pub overflow_sub-count : goal.overflow_sub-count
overflow_sub-count c =
    let b = c.args.b.now in
    omega (arith, stale_within _ b c.requires.1, count_read b _ c.be32-count.ensures.0, stale_read b _ c.be32-stale.ensures.0)
