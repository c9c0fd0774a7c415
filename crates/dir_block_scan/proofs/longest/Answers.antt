use mathlib.Core.Path.{refl}
use Rattle.dir_block_laws.proofs.SlotSearch.{tiled}
use Rattle.dir_block_laws.proofs.OtherGaps.{survey_t, survey_other}
use Rattle.dir_block_scan.proofs.longest.Goals as goal

pub returns-then-g : goal.returns-then-g
returns-then-g c =
    (survey_t _ c.args.b.now (tiled _ c.args.b.now c.requires.sane.1) _ _ _ _ _ c.requires.surveyed c.if-g.true, (refl, refl))

pub returns : goal.returns
returns c =
    (survey_other _ c.args.b.now (tiled _ c.args.b.now c.requires.sane.1) _ _ _ _ _ c.requires.surveyed c.if-g.false, (refl, refl))
