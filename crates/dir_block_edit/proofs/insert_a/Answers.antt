use Prim.Native.Nat.{◌-◌, ◌/◌}
use native.Mathlib.Omega.{arith}
use Rattle.dir_block_laws.proofs.SlotSearch.{slots_room}
use Rattle.dir_block_laws.proofs.InsertStores.{done_a}
use Rattle.dir_block_edit.proofs.insert_a.Goals as goal

pub put_first-requires : goal.put_first-requires
put_first-requires c =
    record { sane = c.requires.sane.0; name_len_bound = omega (arith, slots_room _ c.args.b.now c.requires.sane.0 c.requires.sane.1, c.requires.end_value, c.requires.spot, c.requires.inside) }

pub returns : goal.returns
returns c =
    let g = c.requires.inside in
    done_a _ c.args.b.now c.args.new.name.now c.requires.sane.1 c.args.new.to c.args.new.hash (c.args.gap.at / 8) c.requires.sane.0 c.args.gap.at c.args.gap.len (c.args.stale - 1) _ _ (omega (arith, c.requires.end_value)) g.0 g.1.1 c.reuse.ensures c.put_first.ensures
