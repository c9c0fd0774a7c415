use native.Mathlib.Omega.{arith}
use Rattle.dir_block_laws.proofs.RecordSteps.{count_read, end_read}
use Rattle.dir_block_laws.proofs.SlotSearch.{slots_room}
use Rattle.dir_block_lookup.proofs.end_of_data.Goals as goal

pub overflow_sub-result : goal.overflow_sub-result
overflow_sub-result c = let p = c.requires in omega (arith, slots_room _ c.args.b.now p.0 p.1)

pub overflow_sub-n : goal.overflow_sub-n
overflow_sub-n c = let p = c.requires in omega (arith, slots_room _ c.args.b.now p.0 p.1)

pub be32-requires : goal.be32-requires
be32-requires c = let p = c.requires in omega (arith, slots_room _ c.args.b.now p.0 p.1)

pub overflow_sub-result-2 : goal.overflow_sub-result-2
overflow_sub-result-2 c = let p = c.requires in omega (arith, slots_room _ c.args.b.now p.0 p.1, count_read c.args.b.now _ c.be32.ensures.0)

pub returns : goal.returns
returns c = end_read c.args.b.now _ (count_read c.args.b.now _ c.be32.ensures.0)
