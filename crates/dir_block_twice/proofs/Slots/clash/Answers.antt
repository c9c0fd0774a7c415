use mathlib.Core.Path.{sym, ◌∙◌}
use Rattle.dir_block_twice.proofs.TwinWalk.{clash_start, clash_end, clash_past, clash_stale, clash_hit, clash_on, reach_at, same_at}
use Rattle.dir_block_twice.proofs.Slots.clash.Goals as goal
use Rattle.dir_block_twice.proofs.Slots.clash.Goals.{then-a-ne0+else-same_names, else-a-ne0}

pub loop-j-init : goal.loop-j-init
loop-j-init c =
    clash_start _ _ _ _ _ _ _ c.requires.0

pub returns-then-slot_hash-h : goal.returns-then-slot_hash-h
returns-then-slot_hash-h c =
    clash_past _ _ _ _ _ _ _ _ c.loop-j.invariant c.loop-j-test.true _ _ c.slot_hash.ensures.0 c.slot_hash-h.ensures.0 c.if-slot_hash-h.true

pub same_names-requires : goal.same_names-requires
same_names-requires c =
    (reach_at _ _ _ c.args.self.reach _ _ c.requires.0 c.slot_addr-p.ensures.0 (λ z. c.requires.1 (sym c.slot_addr-p.ensures.0 ∙ z)), reach_at _ _ _ c.args.self.reach _ _ c.loop-j-test.true c.slot_addr-a.ensures.0 c.if-a-ne0.true)

pub returns-then-same_names : goal.returns-then-same_names
returns-then-same_names c =
    clash_hit _ _ _ _ _ _ _ _ c.loop-j.invariant c.loop-j-test.true _ _ c.slot_hash.ensures.0 c.slot_hash-h.ensures.0 c.if-slot_hash-h.false _
    c.slot_addr-a.ensures.0 c.if-a-ne0.true _
    (same_at _ c.args.self.block.now _ _ c.slot_addr-a.result _ c.slot_addr-p.ensures.0 c.same_names.ensures) c.if-same_names.true

pub loop-j-preserved : goal.loop-j-preserved
loop-j-preserved c =
    elim c.if-a-ne0.branch [
      | then-a-ne0+else-same_names w ↦ clash_on _ _ _ _ _ _ _ _ c.loop-j.invariant c.loop-j-test.true _ _ c.slot_hash.ensures.0 c.slot_hash-h.ensures.0 c.if-slot_hash-h.false _ c.slot_addr-a.ensures.0 w.if-a-ne0.true _ (same_at _ c.args.self.block.now _ _ c.slot_addr-a.result _ c.slot_addr-p.ensures.0 w.same_names.ensures) w.if-same_names.false
      | else-a-ne0 w ↦ clash_stale _ _ _ _ _ _ _ _ c.loop-j.invariant c.loop-j-test.true _ _ c.slot_hash.ensures.0 c.slot_hash-h.ensures.0 c.if-slot_hash-h.false _ c.slot_addr-a.ensures.0 w.if-a-ne0.false
    ]

pub returns : goal.returns
returns c =
    clash_end _ _ _ _ _ _ _ _ c.loop-j.invariant c.loop-j-test.false
