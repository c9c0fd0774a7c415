use Rattle.crc32c.proofs.Slices.{next_law}
use Rattle.crc32c.proofs.next.Goals as goal

pub returns : goal.returns
returns c =
    let a = c.args in
    next_law a.c a.b _ _ c.ranges.b.fits c.from.ensures c.from-2.ensures c.first.ensures
