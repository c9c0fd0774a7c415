use Rattle.attr_sf.proofs.ForkWrites.{close_steps}
use Rattle.attr_sf.proofs.close.Goals as goal

pub returns : goal.returns
returns c = close_steps _ _ _ _ c.move_bytes.ensures c.move_bytes.auto.b c.requires (c.fill.ensures.after (λ y h. h))
