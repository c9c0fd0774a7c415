use native.Mathlib.Omega.{arith}
use Rattle.attr_sf.proofs.Tiling.{three, name_inside}
use Rattle.attr_sf.proofs.EntryReads.{name_part}
use Rattle.attr_sf.proofs.Entry.name.Goals as goal

pub be8-requires : goal.be8-requires
be8-requires c = omega (arith, c.args.self.inside, three c.args.self.fork.now c.args.self.at)

pub slice_bounds-result-end : goal.slice_bounds-result-end
slice_bounds-result-end c = omega (arith, name_inside c.args.self.fork.now c.args.self.at _ c.args.self.inside, c.be8.ensures)

pub returns : goal.returns
returns c = name_part _ _ _ c.be8.ensures.0
