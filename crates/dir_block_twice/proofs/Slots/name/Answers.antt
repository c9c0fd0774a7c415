use native.Mathlib.Omega.{arith}
use mathlib.Core.Path.{sym, ◌∙◌}
use Rattle.dir_block_twice.proofs.TwinWalk.{reach_at}
use Rattle.dir_block_twice.proofs.NameOrder.{live_below, live_addr}
use Rattle.dir_block_twice.proofs.Slots.name.Goals as goal

pub slot_addr-p-requires : goal.slot_addr-p-requires
slot_addr-p-requires c =
    let s = c.args.self in
    omega (arith, live_below s.block.now s.at s.count c.args.i (sym c.live.ensures ∙ c.if-not-live.false), s.inside)

pub be8-requires : goal.be8-requires
be8-requires c =
    let s = c.args.self in
    let h = sym c.live.ensures ∙ c.if-not-live.false in
    omega (
      arith,
      reach_at _ _ _ s.reach _ _ (live_below s.block.now s.at s.count c.args.i h) c.slot_addr-p.ensures.0
          (λ z. live_addr s.block.now s.at s.count c.args.i h (sym c.slot_addr-p.ensures.0 ∙ z)),
    )

pub slice_bounds-result-end-2 : goal.slice_bounds-result-end-2
slice_bounds-result-end-2 c =
    let s = c.args.self in
    let h = sym c.live.ensures ∙ c.if-not-live.false in
    omega (
      arith,
      reach_at _ _ _ s.reach _ _ (live_below s.block.now s.at s.count c.args.i h) c.slot_addr-p.ensures.0
          (λ z. live_addr s.block.now s.at s.count c.args.i h (sym c.slot_addr-p.ensures.0 ∙ z)),
      c.be8.ensures,
    )
