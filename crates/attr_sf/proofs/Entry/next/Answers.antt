use native.Mathlib.Omega.{arith}
use Rattle.attr_sf.proofs.Tiling.{three}
use Rattle.attr_sf.proofs.Entry.next.Goals as goal

pub size-requires : goal.size-requires
size-requires c = omega (arith, c.args.self.inside, three c.args.self.fork.now c.args.self.at)
