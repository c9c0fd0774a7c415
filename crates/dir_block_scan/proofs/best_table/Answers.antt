use native.Mathlib.Omega.{arith}
use Rattle.dir_block_scan.proofs.TableStored.{three_of, best_joined}
use Rattle.dir_block_laws.proofs.RecordSteps.{room_for, count_read, end_read}
use Rattle.dir_block_laws.proofs.LastGap.{end_place}
use Rattle.dir_block_laws.proofs.BothEnds.{all_gaps}
use Rattle.dir_block_scan.proofs.best_table.Goals as goal

pub overflow_sub-n : goal.overflow_sub-n
overflow_sub-n c =
    omega (arith, room_for _ c.args.b.now c.requires.1)

pub be32-c-requires : goal.be32-c-requires
be32-c-requires c =
    omega (arith, room_for _ c.args.b.now c.requires.1)

pub overflow_sub-n-2 : goal.overflow_sub-n-2
overflow_sub-n-2 c =
    omega (arith, room_for _ c.args.b.now c.requires.1, count_read c.args.b.now c.be32-c.result c.be32-c.ensures.0)

pub overflow_sub-n-3 : goal.overflow_sub-n-3
overflow_sub-n-3 c =
    omega (arith, room_for _ c.args.b.now c.requires.1, count_read c.args.b.now c.be32-c.result c.be32-c.ensures.0)

pub pass-s-requires : goal.pass-s-requires
pass-s-requires c =
    let b = c.args.b.now in
    record { sane = c.requires; place = end_place _ b c.requires.1 _ (end_read b c.be32-c.result (count_read b c.be32-c.result c.be32-c.ensures.0)) }

pub put_table-requires : goal.put_table-requires
put_table-requires c =
    omega (arith, c.requires.0.best_inside, room_for _ c.args.b.now c.requires.1)

pub returns : goal.returns
returns c =
    let b = c.args.b.now in
    let d = end_read b c.be32-c.result (count_read b c.be32-c.result c.be32-c.ensures.0) in
    best_joined _ b _ _ (three_of _ b _ _ _ _ (all_gaps _ b c.requires.1 _ _ d c.pass-s.ensures)) c.put_table.ensures
