use native.Mathlib.Omega.{arith}
use mathlib.Core.Path.{refl}
use Rattle.dir_sf.proofs.Run.{enough_fewer}
use Rattle.dir_sf.proofs.Listed.{list_enough}
use Rattle.dir_sf.proofs.Turn.{placed_is, from_is}
use Rattle.dir_sf.proofs.Entries.of.Goals as goal

pub invariant_of-result : goal.invariant_of-result
invariant_of-result c =
    let all = list_enough _ _ _ _ _ c.be8.ensures.0 c.be8-wides.ensures.0 c.width.ensures.0 c.requires.1.listed in
    record { sane = c.requires.0; lie = enough_fewer _ _ _ _ c.be8.result _ (omega arith) all }

pub returns : goal.returns
returns c =
    let k = c.be8.ensures.0 in
    let s = c.be8-wides.ensures.0 in
    let w = c.width.ensures.0 in
    (refl, placed_is _ _ _ _ _ k s w, from_is _ _ _ _ k s w)
