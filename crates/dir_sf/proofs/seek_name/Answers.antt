use Rattle.dir_sf.proofs.Looks.{hits_are, miss_is}
use Rattle.dir_sf.proofs.seek_name.Goals as goal

pub returns : goal.returns
returns c =
    let w = hits_are _ _ _ _ _ _ c.of.ensures.0 c.of.ensures.1 c.find.ensures in
    record { found = w; miss = miss_is _ _ _ _ w }
