use native.Mathlib.Omega.{arith}
use Rattle.attr_sf.specs.Fork.{entry_at}
use Rattle.attr_sf.proofs.Tiling.{three}
use Rattle.attr_sf.proofs.Entry.flags.Goals as goal

pub be8-requires : goal.be8-requires
be8-requires c = omega (arith, c.args.self.inside, three c.args.self.fork.now c.args.self.at)

pub returns : goal.returns
unfolding entry_at
returns c = c.be8.ensures.0
