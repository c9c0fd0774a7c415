use Rattle.dir_block_laws.proofs.SlotSearch.{tiled}
use Rattle.dir_block_scan.proofs.survey.Goals as goal

pub last_gap-last-requires : goal.last_gap-last-requires
last_gap-last-requires c =
    record { sane = (c.requires.sane.0, tiled _ c.args.b.now c.requires.sane.1); end_value = c.requires.end_value }

pub others_of-others-requires : goal.others_of-others-requires
others_of-others-requires c = record { sane = c.requires.sane; scanned = c.last_gap-last.ensures }

pub returns : goal.returns
returns c = record { others = c.others_of-others.ensures; last = c.last_gap-last.ensures }
