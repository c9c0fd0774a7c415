use Prim.Native.Nat.{◌+◌, ◌-◌}
use mathlib.Core.Path.{sym, ap, ◌∙◌}
use native.Mathlib.Omega.{arith}
use lib.ListN.{length, drop, length-drop}
use lib.Seq.{take_all, length-take-le}
use Rattle.crc32c.specs.Crc.{crc_from}
use Rattle.crc32c.proofs.SealLaws.{sum_in_runs}
use Rattle.crc32c.proofs.in_runs.Goals as goal

pub slice_bounds-over-end : goal.slice_bounds-over-end
slice_bounds-over-end c = let a = c.args in sym (length-take-le a.at a.b.now (omega arith))

pub returns : goal.returns
returns c =
    let z = c.over_zeros-c in
    let b = c.args.b.now in
    let behind = c.args.at + 4 in
    sum_in_runs c.args.at b _ _ c.requires.0 c.over.ensures z.ensures
    (c.over-2.ensures ∙ ap (crc_from z.result) (take_all (length b - behind) (drop behind b) (rw length-drop (omega arith))))
