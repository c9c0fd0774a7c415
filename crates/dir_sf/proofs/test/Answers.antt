use Rattle.dir_sf.proofs.Inodes.{test_made}
use Rattle.dir_sf.proofs.test.Goals as goal

pub returns : goal.returns
returns c = test_made _ _ _ _ _ c.check.ensures c.edition.ensures.0
