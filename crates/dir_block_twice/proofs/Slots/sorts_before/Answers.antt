use native.Mathlib.Omega.{arith}
use Prim.Native.Nat.{◌<◌}
use mathlib.Core.Path.{sym, ◌∙◌}
use Rattle.dir_block_twice.proofs.TwinWalk.{reach_at}
use Rattle.dir_block_twice.proofs.NameOrder.{live_below, live_addr, before_left, before_right, before_names}
use Rattle.dir_block_twice.proofs.Slots.sorts_before.Goals as goal

pub returns-then-not-live : goal.returns-then-not-live
returns-then-not-live c = before_left _ _ _ _ _ _ c.live.ensures c.if-not-live.true

pub returns-then-not-live-2 : goal.returns-then-not-live-2
returns-then-not-live-2 c = before_right _ _ _ _ _ _ _ c.live.ensures c.if-not-live.false c.live-2.ensures c.if-not-live-2.true

pub slot_addr-requires : goal.slot_addr-requires
slot_addr-requires c =
    let a = c.args in
    let h : a.i < a.self.count = live_below a.self.block.now a.self.at a.self.count a.i (sym c.live.ensures ∙ c.if-not-live.false) in
    omega (arith, a.self.inside)

pub slot_addr-requires-2 : goal.slot_addr-requires-2
slot_addr-requires-2 c =
    let a = c.args in
    let h : a.j < a.self.count = live_below a.self.block.now a.self.at a.self.count a.j (sym c.live-2.ensures ∙ c.if-not-live-2.false) in
    omega (arith, a.self.inside)

pub sooner_at-requires : goal.sooner_at-requires
sooner_at-requires c =
    let a = c.args in
    let r = a.self.reach in
    let g = sym c.live.ensures ∙ c.if-not-live.false in
    let h = sym c.live-2.ensures ∙ c.if-not-live-2.false in (
      reach_at _ _ _ r _ _ (live_below a.self.block.now a.self.at a.self.count a.i g) c.slot_addr.ensures.0 (λ z. live_addr a.self.block.now a.self.at a.self.count a.i g (sym c.slot_addr.ensures.0 ∙ z)),
      reach_at _ _ _ r _ _ (live_below a.self.block.now a.self.at a.self.count a.j h) c.slot_addr-2.ensures.0 (λ z. live_addr a.self.block.now a.self.at a.self.count a.j h (sym c.slot_addr-2.ensures.0 ∙ z)),
    )

pub returns : goal.returns
returns c =
    before_names _ _ _ _ _ _ _ _ _ _ c.live.ensures c.if-not-live.false c.live-2.ensures c.if-not-live-2.false c.slot_addr.ensures.0 c.slot_addr-2.ensures.0 c.sooner_at.ensures
