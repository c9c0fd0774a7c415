use native.Mathlib.Omega.{arith}
use mathlib.Core.Path.{refl}
use Rattle.dir_block_laws.proofs.SlotSearch.{slots_room, slot_read}
use Rattle.dir_block_laws.proofs.IndexStores.{stale_turn, stale_none, stale_at}
use Rattle.dir_block_index.proofs.first_stale.Goals as goal

pub loop-j-init : goal.loop-j-init
loop-j-init c = refl

pub overflow_mul-j : goal.overflow_mul-j
overflow_mul-j c =
    omega (arith, slots_room _ c.args.b.now c.requires.sane.0 c.requires.sane.1, c.requires.end_value, c.requires.b_nonzero)

pub overflow_add-end : goal.overflow_add-end
overflow_add-end c =
    omega (arith, slots_room _ c.args.b.now c.requires.sane.0 c.requires.sane.1, c.requires.end_value, c.requires.b_nonzero)

pub overflow_add-end-in-loop-j : goal.overflow_add-end-in-loop-j
overflow_add-end-in-loop-j c =
    omega (arith, slots_room _ c.args.b.now c.requires.sane.0 c.requires.sane.1, c.requires.end_value, c.requires.b_nonzero)

pub be32-a-requires : goal.be32-a-requires
be32-a-requires c =
    omega (arith, slots_room _ c.args.b.now c.requires.sane.0 c.requires.sane.1, c.requires.end_value, c.requires.b_nonzero)

pub returns-then-a-eq0 : goal.returns-then-a-eq0
returns-then-a-eq0 c =
    stale_at _ c.requires.sane.0 c.args.b.now c.requires.sane.1 c.args.end c.loop-j.j c.be32-a.result c.requires.end_value.0 (omega (arith, c.requires.end_value, c.requires.b_nonzero)) c.loop-j.invariant c.be32-a.ensures.0 c.if-a-eq0.true

pub loop-j-preserved : goal.loop-j-preserved
loop-j-preserved c =
    let j = c.loop-j.j in
    stale_turn _ c.requires.sane.0 c.args.b.now c.requires.sane.1 j _ c.be32-a.result (slot_read _ c.args.b.now c.requires.sane.0 c.requires.sane.1 c.args.end j _ c.be32-a.result c.requires.end_value.0 (omega (arith, c.requires.end_value, c.requires.b_nonzero)) refl c.be32-a.ensures.0) c.loop-j.invariant c.if-a-eq0.false

pub returns : goal.returns
returns c =
    absurd (omega (arith, c.requires.end_value, c.requires.b_nonzero, stale_none _ c.requires.sane.0 c.args.b.now c.requires.sane.1 c.loop-j.j (omega (arith, c.requires.end_value, c.requires.b_nonzero)) c.loop-j.invariant))
