use Rattle.dir_block_laws.proofs.IndexStores.{spot_found}
use Rattle.dir_block_index.proofs.spot.Goals as goal

pub returns : goal.returns
returns c =
    let e = c.first_slot.ensures in
    spot_found _ _ _ _ c.requires.end_value.1 e.0 e.1.0 e.1.1
