use Rattle.crc32c.proofs.Slices.{zeros_law}
use Rattle.crc32c.proofs.over_zeros.Goals as goal

pub returns : goal.returns
returns c = zeros_law _ _ _ _ _ c.next.ensures c.next-2.ensures c.next-3.ensures c.next-4.ensures
