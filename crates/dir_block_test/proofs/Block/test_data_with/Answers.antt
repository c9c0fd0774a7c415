use native.Mathlib.Omega.{arith}
use mathlib.Core.Path.{refl}
use Rattle.dir_block_test.proofs.EarlyTests.{end_5, end_tile, faulted}
use Rattle.dir_block_test.proofs.LaterTests.{best_fits_is}
use Rattle.dir_block_test.proofs.SlotTable.{cells_long}
use Rattle.dir_block_test.proofs.Block.test_data_with.Goals as goal

pub walk-requires : goal.walk-requires
walk-requires c = omega (arith, c.requires.table.0, cells_long _ _ _ _ _ c.slots-run.ensures.2)

pub returns-in_default : goal.returns-in_default
returns-in_default c = end_5 _ _ _ _ _ c.in_default.ensures

pub test_entries-requires-clause-shown : goal.test_entries-requires-clause-shown
test_entries-requires-clause-shown c =
    let a = c.args.self in
    let w = c.in-Some.ensures in
    let s = c.slots-run.ensures in
    let f = c.pair_at.ensures in
    let g = c.pair_at-2.ensures in
    let h = c.pair_at-3.ensures in (
      w.1,
      s.0,
      s.1,
      faulted _ _ _ _ _ _ _ c.requires.table.0 c.requires.table.1 s.2 w.2,
      best_fits_is _ a.sane _ _ _ (record { parts = a.parts; tiles = w.0 }) _ _ _ _ _ _ f.0 f.1 f.2 g.0 g.1 h.0 h.1 _ _ _ _ _ refl refl refl w.3 c.best_fits.ensures,
    )

pub shape_of-cells : goal.shape_of-cells
shape_of-cells c = cells_long _ _ _ _ _ c.slots-run.ensures.2

pub returns : goal.returns
returns c = end_tile _ _ _ _ _ c.in-Some.ensures.0 _ c.test_entries.ensures
