use Prim.Native.Nat.{◌/◌}
use native.Mathlib.Omega.{arith}
use mathlib.Core.Path.{◌∙◌}
use Rattle.dir_block_laws.proofs.SlotSearch.{slots_room}
use Rattle.dir_block_laws.proofs.InsertStores.{done_d}
use Rattle.dir_block_edit.proofs.insert_d.Goals as goal

pub grow-requires : goal.grow-requires
grow-requires c =
    record { sane = c.requires.sane; end_value = (c.requires.end_value.0, (c.requires.end_value.1, omega (arith, c.requires.sane.0))); spot = c.requires.spot }

pub put_first-requires : goal.put_first-requires
put_first-requires c =
    record { sane = c.requires.sane.0; name_len_bound = omega (arith, slots_room _ c.args.b.now c.requires.sane.0 c.requires.sane.1, c.requires.end_value, c.requires.spot, c.requires.name_len_bound, c.requires.header_le_u) }

pub returns : goal.returns
returns c =
    let t = c.requires.header_le_u in
    done_d _ c.args.b.now c.args.new.name.now c.requires.sane.1 c.args.new.to c.args.new.hash (c.args.last.at / 8) c.args.last.at c.args.last.len _ _ (t.1.0 ∙ c.requires.end_value.0) c.requires.name_len_bound.1 t.1.1 c.grow.ensures c.put_first.ensures
