use borrow.Author.Rules.{rules}
use Rattle.dir_sf.proofs.Listed.{header_in, list_enough}
use Rattle.dir_sf_edit.proofs.TagScans.{spot_index, spot_place}
use Rattle.dir_sf_edit.proofs.spot_of.Goals as goal

pub rank_of-requires : goal.rank_of-requires
rank_of-requires c = (search rules, search (rules, header_in), search (rules, list_enough))

pub returns : goal.returns
returns c = (search (rules, spot_index), search (rules, spot_place))
