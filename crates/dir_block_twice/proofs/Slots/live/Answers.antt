use Rattle.dir_block_twice.proofs.NameOrder.{live_here, live_past}
use Rattle.dir_block_twice.proofs.Slots.live.Goals as goal

pub returns-then-i-self : goal.returns-then-i-self
returns-then-i-self c = live_here _ _ _ _ _ c.if-i-self.true c.slot_addr.ensures.0

pub returns : goal.returns
returns c = live_past _ _ _ _ c.if-i-self.false
