use Rattle.dir_sf.proofs.Tested.{lookup_made}
use Rattle.dir_sf.proofs.lookup.Goals as goal

pub returns : goal.returns
returns c = lookup_made _ _ _ _ _ _ c.look_up.ensures c.edition.ensures.0
