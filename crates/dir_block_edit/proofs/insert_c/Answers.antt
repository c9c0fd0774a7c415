use Prim.Native.Nat.{◌/◌}
use native.Mathlib.Omega.{arith}
use mathlib.Core.Path.{◌∙◌}
use Rattle.dir_block_laws.proofs.SlotSearch.{slots_room}
use Rattle.dir_block_laws.proofs.InsertStores.{done_c}
use Rattle.dir_block_edit.proofs.insert_c.Goals as goal

pub grow-requires : goal.grow-requires
grow-requires c =
    record { sane = c.requires.sane; end_value = (c.requires.end_value.0, (c.requires.end_value.1, omega (arith, c.requires.sane.0))); spot = c.requires.spot }

pub put_first-requires : goal.put_first-requires
put_first-requires c =
    record { sane = c.requires.sane.0; name_len_bound = omega (arith, slots_room _ c.args.b.now c.requires.sane.0 c.requires.sane.1, c.requires.end_value, c.requires.spot, c.requires.inside, c.requires.l_bound) }

pub put_gap-requires : goal.put_gap-requires
put_gap-requires c =
    omega (arith, c.requires.sane.0, slots_room _ c.args.b.now c.requires.sane.0 c.requires.sane.1, c.requires.end_value, c.requires.spot, c.requires.inside, c.requires.l_bound)

pub returns : goal.returns
returns c =
    let g = c.requires.inside in
    let t = c.requires.l_bound in
    done_c _ c.args.b.now c.args.new.name.now c.requires.sane.1 c.args.new.to c.args.new.hash (c.args.gap.at / 8) c.args.gap.at c.args.gap.len
    c.args.last.at c.args.last.len _ _ _ g.0 g.1.1 t.0 (t.1.0 ∙ c.requires.end_value.0) t.1.1.0 t.1.1.1 c.grow.ensures
    c.put_first.ensures c.put_gap.ensures
