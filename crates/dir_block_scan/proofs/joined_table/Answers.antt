use native.Mathlib.Omega.{arith}
use mathlib.Core.Path.{sym, ◌∙◌}
use Rattle.dir_block_laws.proofs.RecordSteps.{room_for}
use Rattle.dir_block_scan.proofs.TableStored.{best_joined}
use Rattle.dir_block_scan.proofs.joined_table.Goals as goal

pub put_table-requires : goal.put_table-requires
put_table-requires c =
    omega (arith, c.requires.sane.0.best_inside, room_for _ c.args.b.now c.requires.sane.1)

pub returns-then-s-eq0 : goal.returns-then-s-eq0
returns-then-s-eq0 c =
    best_joined _ c.args.b.now _ _ (c.requires.b_value c.if-s-eq0.true ∙ sym c.joined-t.ensures) c.put_table.ensures
