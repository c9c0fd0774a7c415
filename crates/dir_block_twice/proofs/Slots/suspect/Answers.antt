use native.Mathlib.Omega.{arith}
use Prim.Native.Nat.{◌/◌}
use mathlib.Core.Path.{refl}
use Rattle.dir_block_twice.proofs.TwinWalk.{reach_past}
use Rattle.dir_block_twice.proofs.SeenKeys.{cell_lt}
use Rattle.dir_block_twice.proofs.TwinKeys.{noted_apart, noted_stale, noted_new}
use Rattle.dir_block_twice.proofs.Slots.suspect.Goals as goal

pub returns-then-not-in_run : goal.returns-then-not-in_run
returns-then-not-in_run c = noted_apart _ _ _ _ _ c.requires.1 _ c.in_run.ensures c.if-not-in_run.true

pub returns-then-a-eq0 : goal.returns-then-a-eq0
returns-then-a-eq0 c = noted_stale _ _ _ _ _ c.requires.1 _ c.slot_addr-a.ensures.0 c.if-a-eq0.true

pub name_key-k-requires : goal.name_key-k-requires
name_key-k-requires c = reach_past _ _ _ c.args.self.reach _ _ c.requires.0 c.slot_addr-a.ensures.0 c.if-a-eq0.false

pub overflow_sub-cells : goal.overflow_sub-cells
overflow_sub-cells c = omega (arith, c.requires.1.some)

pub note-requires : goal.note-requires
note-requires c = cell_lt (c.name_key-k.result / 4096) _ c.requires.1.some

pub returns : goal.returns
returns c =
    let k = c.name_key-k in
    let s = c.slot_addr-a in
    let e = c.note.ensures in
    noted_new c.args.self.block.now c.args.self.at c.args.self.count c.args.i c.args.seen.now c.requires.1 s.result k.result _ _ _ _
    s.ensures.0 k.ensures c.bits.ensures refl e.0 e.1
    c.if-a-eq0.false c.requires.0
