use mathlib.Core.Path.{sym, ◌∙◌}
use Rattle.dir_block_twice.proofs.TwinWalk.{twin_live}
use Rattle.dir_block_twice.proofs.TwinKeys.{twin_twice}
use Rattle.dir_block_twice.proofs.NameOrder.{live_below, live_addr}
use Rattle.dir_block_twice.proofs.Slots.twin_of.Goals as goal

pub clash-requires : goal.clash-requires
clash-requires c =
    let h = sym c.live.ensures ∙ c.if-not-live.false in
    (live_below _ _ _ _ h, live_addr _ _ _ _ h)

pub returns-then-clash : goal.returns-then-clash
returns-then-clash c =
    let a = c.args in
    let h = sym c.live.ensures ∙ c.if-not-live.false in
    twin_twice a.e a.self.block.now a.self.at a.self.count a.i (live_below _ _ _ _ h) (twin_live a.e a.self.block.now a.self.at a.self.count a.i _ (live_addr _ _ _ _ h) c.clash.ensures ∙ c.if-clash.true)
