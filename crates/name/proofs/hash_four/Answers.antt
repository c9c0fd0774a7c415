use Rattle.name.proofs.Hashing.{four_is}
use Rattle.name.proofs.hash_four.Goals as goal

pub returns : goal.returns
returns c =
    let a = c.args in
    let f = c.ranges in
    rw c.rotated.ensures (four_is a.h a.a a.b a.c a.d f.h.fits f.a.fits f.b.fits f.c.fits)
