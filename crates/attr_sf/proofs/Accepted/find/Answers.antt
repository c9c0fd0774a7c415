use Rattle.attr_sf.proofs.Seeking.{place_is}
use Rattle.attr_sf.proofs.Accepted.find.Goals as goal

pub returns : goal.returns
returns c =
    let p = c.entries.ensures.places in
    place_is _ _ _ c.entries.ensures.bytes p.0 p.1.0 p.1.1 c.find.ensures
