use Rattle.crc32c.proofs.SealLaws.{ok_law}
use Rattle.crc32c.proofs.sealed_ok.Goals as goal

pub returns : goal.returns
returns c = ok_law _ _ _ _ _ c.le32.ensures.0 c.from.ensures c.sum_without.ensures
