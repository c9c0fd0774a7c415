use Prim.Native.Nat.{ℕ}
use native.Mathlib.Omega.{arith}
use mathlib.Core.Path.{sym, ◌∙◌, ap}
use Rattle.edition.proofs.Sizes.{entry_size_least, entry_size_most}
use Rattle.dir_block_rules.specs.Verdict.{pair}
use Rattle.dir_block_laws.specs.UsedTable.{used_table}
use Rattle.dir_block_laws.proofs.RecordSteps.{room_for}
use Rattle.dir_block_scan.specs.Table.{table}
use Rattle.dir_block_scan.proofs.TableStored.{best_joined}
use Rattle.dir_block_scan.proofs.used_table.Goals as goal

pub used-requires : goal.used-requires
used-requires c =
    let z = c.entry_size-need.ensures.0 in
    record { n_nonzero = (omega (arith, z, entry_size_least c.args.e c.args.n), (omega (arith, z, entry_size_most c.args.e c.args.n, c.requires.sane.0, c.requires.n_bound), c.requires.n_bound.1)); l1_bound = c.requires.l1_bound }

pub put_table-requires : goal.put_table-requires
put_table-requires c =
    omega (arith, c.requires.sane.0.best_inside, room_for _ c.args.b.now c.requires.sane.1)

pub returns : goal.returns
returns c =
    best_joined _ c.args.b.now _ _
    (c.requires.b_value ∙ ap (λ (k : ℕ). used_table k c.args.stale (pair c.args.g.last.at c.args.g.last.len) (table c.args.g)) (sym c.entry_size-need.ensures.0) ∙ sym c.used.ensures)
    c.put_table.ensures
