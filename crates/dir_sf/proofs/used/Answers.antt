use native.Mathlib.Omega.{arith}
use mathlib.Core.Path.{ap}
use lib.ListN.{length}
use Rattle.dir_sf.proofs.Tested.{size_at, used_bounds, used_is, used_short}
use Rattle.dir_sf.proofs.used.Goals as goal

pub be64-requires : goal.be64-requires
be64-requires c = size_at _ c.requires.0 _ _ c.requires.1

pub overflow_add-end : goal.overflow_add-end
overflow_add-end c = let s = c.requires.0 in omega (arith, used_bounds _ s _ _ c.requires.1 _ c.be64.ensures, s.literal_most)

pub slice_bounds-result-end : goal.slice_bounds-result-end
slice_bounds-result-end c = omega (arith, used_bounds _ c.requires.0 _ _ c.requires.1 _ c.be64.ensures)

pub returns : goal.returns
returns c =
    let q = used_is _ c.requires.0 _ _ c.requires.1 _ c.be64.ensures in
    (q, omega (arith, ap length q, used_short _ c.requires.0 _ _ c.requires.1))
