use native.Mathlib.Omega.{arith}
use mathlib.Core.Path.{sym, ◌∙◌}
use Rattle.dir_block_laws.proofs.SlotSearch.{slots_room}
use Rattle.dir_block_laws.proofs.WalkSteps.{place_room, entry_room, step_gap, step_entry, step_last}
use Rattle.dir_block_lookup.proofs.step_ready.Goals as goal

pub returns-then-end-p : goal.returns-then-end-p
returns-then-end-p c = let q = c.requires in step_last _ q.sane.0 _ q.sane.1 _ q.end_value.1 (omega (arith, q.end_value.0))

pub be16-requires : goal.be16-requires
be16-requires c = let q = c.requires in omega (arith, slots_room _ c.args.b.now c.requires.sane.0 c.requires.sane.1, place_room _ q.sane.0 c.args.b.now q.sane.1 _ q.end_value.1 (omega (arith, q.end_value.0)))

pub overflow_add-p : goal.overflow_add-p
overflow_add-p c = let q = c.requires in omega (arith, slots_room _ c.args.b.now c.requires.sane.0 c.requires.sane.1, q.end_value.0)

pub be16-n-requires : goal.be16-n-requires
be16-n-requires c = let q = c.requires in omega (arith, slots_room _ c.args.b.now c.requires.sane.0 c.requires.sane.1, place_room _ q.sane.0 c.args.b.now q.sane.1 _ q.end_value.1 (omega (arith, q.end_value.0)))

pub overflow_add-result : goal.overflow_add-result
overflow_add-result c = let q = c.requires in omega (arith, slots_room _ c.args.b.now c.requires.sane.0 c.requires.sane.1, q.end_value.0)

pub returns-then-be16-eq65535 : goal.returns-then-be16-eq65535
returns-then-be16-eq65535 c = let q = c.requires in step_gap _ q.sane.0 _ q.sane.1 _ _ q.end_value.1 (omega (arith, q.end_value.0)) (sym c.be16.ensures.0 ∙ c.if-be16-eq65535.true) c.be16-n.ensures.0

pub target_at-target-requires : goal.target_at-target-requires
target_at-target-requires c = let q = c.requires in (q.sane.0, omega (arith, slots_room _ c.args.b.now q.sane.0 q.sane.1, entry_room _ q.sane.0 c.args.b.now q.sane.1 _ q.end_value.1 (omega (arith, q.end_value.0)) (λ z. c.if-be16-eq65535.false (c.be16.ensures.0 ∙ z))))

pub overflow_add-p-2 : goal.overflow_add-p-2
overflow_add-p-2 c = let q = c.requires in omega (arith, slots_room _ c.args.b.now c.requires.sane.0 c.requires.sane.1, q.end_value.0)

pub be8-len-requires : goal.be8-len-requires
be8-len-requires c = let q = c.requires in omega (arith, slots_room _ c.args.b.now c.requires.sane.0 c.requires.sane.1, entry_room _ q.sane.0 c.args.b.now q.sane.1 _ q.end_value.1 (omega (arith, q.end_value.0)) (λ z. c.if-be16-eq65535.false (c.be16.ensures.0 ∙ z)))

pub entry_size-size-requires : goal.entry_size-size-requires
entry_size-size-requires c = (c.requires.sane.0, c.be8-len.ensures.1)

pub overflow_add-next : goal.overflow_add-next
overflow_add-next c = let q = c.requires in omega (arith, slots_room _ c.args.b.now c.requires.sane.0 c.requires.sane.1, q.end_value.0, c.entry_size-size.ensures.1.1)

pub overflow_add-entry : goal.overflow_add-entry
overflow_add-entry c = let q = c.requires in omega (arith, slots_room _ c.args.b.now c.requires.sane.0 c.requires.sane.1, q.end_value.0)

pub returns : goal.returns
returns c = let q = c.requires in step_entry _ q.sane.0 _ q.sane.1 _ _ _ _ q.end_value.1 (omega (arith, q.end_value.0)) (λ z. c.if-be16-eq65535.false (c.be16.ensures.0 ∙ z)) c.be8-len.ensures.0 c.be8-len.ensures.1 c.entry_size-size.ensures.0 c.target_at-target.ensures
