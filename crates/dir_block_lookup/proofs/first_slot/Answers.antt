use native.Mathlib.Omega.{arith}
use mathlib.Core.Path.{◌≡◌}
use Rattle.dir_block_laws.proofs.SlotSearch.{slots_room, search_start, turn_left, turn_right}
use Rattle.dir_block_lookup.proofs.first_slot.Goals as goal

pub loop-lo-init : goal.loop-lo-init
loop-lo-init c =
    let s = search_start _ c.args.b.now c.requires.sane.0 c.requires.sane.1 c.args.h c.args.count c.requires.end_value.1 in
    (omega arith, (omega arith, s))

pub overflow_sub-mid : goal.overflow_sub-mid
overflow_sub-mid c = omega (arith, slots_room _ c.args.b.now c.requires.sane.0 c.requires.sane.1, c.requires.end_value)

pub overflow_add-mid : goal.overflow_add-mid
overflow_add-mid c = omega (arith, slots_room _ c.args.b.now c.requires.sane.0 c.requires.sane.1, c.requires.end_value)

pub overflow_mul-mid : goal.overflow_mul-mid
overflow_mul-mid c = omega (arith, slots_room _ c.args.b.now c.requires.sane.0 c.requires.sane.1, c.requires.end_value)

pub overflow_add-end : goal.overflow_add-end
overflow_add-end c = omega (arith, slots_room _ c.args.b.now c.requires.sane.0 c.requires.sane.1, c.requires.end_value)

pub be32-requires : goal.be32-requires
be32-requires c = omega (arith, slots_room _ c.args.b.now c.requires.sane.0 c.requires.sane.1, c.requires.end_value)

pub overflow_add-lo : goal.overflow_add-lo
overflow_add-lo c = omega (arith, slots_room _ c.args.b.now c.requires.sane.0 c.requires.sane.1, c.requires.end_value)

pub loop-lo-preserved-then-be32-h : goal.loop-lo-preserved-then-be32-h
loop-lo-preserved-then-be32-h c =
    let l = c.loop-lo in
    (omega arith, (omega arith, (turn_right _ _ c.requires.sane.0 c.requires.sane.1 _ _ _ _ c.requires.end_value.0 (omega (arith, c.requires.end_value)) c.be32.ensures.0 c.if-be32-h.true, l.invariant.1.1.1)))

pub loop-lo-preserved : goal.loop-lo-preserved
loop-lo-preserved c =
    let l = c.loop-lo in
    (omega arith, (omega arith, (l.invariant.1.1.0, turn_left _ _ c.requires.sane.0 c.requires.sane.1 _ _ _ _ c.requires.end_value.0 (omega (arith, c.requires.end_value)) c.be32.ensures.0 c.if-be32-h.false)))

pub returns : goal.returns
returns c =
    let l = c.loop-lo in
    let e : l.hi ≡ l.lo = omega arith in
    (omega arith, (l.invariant.1.1.0, rw e at l.invariant.1.1.1))
