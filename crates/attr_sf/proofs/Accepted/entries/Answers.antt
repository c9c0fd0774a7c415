use native.Mathlib.Omega.{arith}
use mathlib.Core.Path.{refl}
use Rattle.attr_sf.specs.Fork.{totsize, count}
use Rattle.attr_sf.proofs.ForkTests.{long, end_inside, all_tiled}
use Rattle.attr_sf.proofs.Accepted.entries.Goals as goal

pub be8-requires : goal.be8-requires
be8-requires c = omega (arith, long _ c.args.self.passes)

pub be16-requires : goal.be16-requires
be16-requires c = omega (arith, long _ c.args.self.passes)

pub invariant_of-result : goal.invariant_of-result
unfolding totsize count
invariant_of-result c = rw (c.be8.ensures.0, c.be16.ensures.0) (record { inside = end_inside _ c.args.self.passes; tiling = all_tiled _ c.args.self.passes })

pub returns-clause-places : goal.returns-clause-places
unfolding totsize count
returns-clause-places c = (refl, (c.be8.ensures.0, c.be16.ensures.0))
