use Rattle.dir_sf.proofs.Walks.{step_made}
use Rattle.dir_sf.proofs.step_at.Goals as goal

pub returns : goal.returns
returns c = step_made _ _ _ _ _ _ c.walk_from.ensures c.edition.ensures.0
