use native.Mathlib.Omega.{arith}
use Rattle.attr_sf.proofs.Tiling.{three}
use Rattle.attr_sf.proofs.WalkSteps.{live_is}
use Rattle.attr_sf.proofs.Entry.step.Goals as goal

pub be8-name_len-requires : goal.be8-name_len-requires
be8-name_len-requires c = omega (arith, c.args.self.inside, three c.args.self.fork.now c.args.self.at)

pub be8-requires : goal.be8-requires
be8-requires c = omega (arith, c.args.self.inside, three c.args.self.fork.now c.args.self.at)

pub returns : goal.returns
returns c = live_is _ _ _ c.be8-name_len.ensures.0 c.be8.ensures.0 c.flags.ensures c.next-next.ensures
