use Rattle.dir_sf.proofs.Tests.{wide_bit}
use Rattle.dir_sf.proofs.one_if_wide.Goals as goal

pub returns : goal.returns
returns c = wide_bit _ _ c.from.ensures
