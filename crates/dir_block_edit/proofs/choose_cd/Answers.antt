use Rattle.dir_block_edit.proofs.RoomTaken.{room_c, room_d, room_no_t, room_no_cd}
use Prim.Native.Nat.{◌<◌}
use native.Mathlib.Omega.{arith}
use mathlib.Core.Path.{refl, sym, ◌∙◌}
use mathlib.Core.List.{[]}
use lib.ListN.{length}
use Rattle.edition.proofs.Sizes.{entry_size_least, entry_size_most}
use Rattle.dir_block_laws.proofs.SlotSearch.{tiled}
use Rattle.dir_block_laws.proofs.InsertStores.{other_inside, other_before}
use Rattle.dir_block_edit.proofs.choose_cd.Goals as goal

pub returns-then-g-lt8 : goal.returns-then-g-lt8
returns-then-g-lt8 c =
    room_no_t _ c.args.b.now c.args.new.name.now c.args.new.to c.args.g.first.at c.args.g.first.len []
    c.args.g.last.at c.args.g.last.len 0 c.args.need c.args.new.hash c.requires.scanned c.requires.end_value.1.1
    c.requires.h_value.1.0 c.requires.h_value.0 c.args.other.at c.args.other.len c.requires.name_value.0 c.requires.name_value.1 refl
    c.if-g-lt8.true

pub insert_c-requires : goal.insert_c-requires
insert_c-requires c =
    let lt : 0 < c.args.other.len = omega (arith, c.requires.h_value, entry_size_least c.args.e (length c.args.new.name.now), c.if-need-other.true) in record { sane = c.requires.sane; end_value = (c.requires.end_value.0, c.requires.end_value.1.0); spot = c.requires.spot; inside = (other_inside _ c.args.b.now c.args.new.name.now (tiled _ c.args.b.now c.requires.sane.1) c.args.other.at c.args.other.len lt c.requires.name_value.0 c.requires.name_value.1, (c.requires.h_value.1.1, omega (arith, c.requires.h_value, c.if-need-other.true))); l_bound = (other_before _ c.args.b.now c.args.new.name.now (tiled _ c.args.b.now c.requires.sane.1) c.args.other.at c.args.other.len c.args.g.last.at c.args.g.last.len lt (omega (arith, c.if-g-lt8.false)) c.requires.name_value.0 c.requires.name_value.1 c.requires.scanned.touch_off c.requires.scanned.touch_size, (c.requires.scanned.touch_end ∙ sym c.requires.end_value.0, (omega (arith, c.if-g-lt8.false), c.requires.scanned.touch_mod))) }

pub returns-then-need-other : goal.returns-then-need-other
returns-then-need-other c =
    room_c _ c.args.b.now c.args.new.name.now c.args.new.to c.args.g.first.at c.args.g.first.len [] c.args.g.last.at c.args.g.last.len 0 c.args.need c.args.new.hash c.requires.scanned c.requires.end_value.1.1 c.requires.h_value.1.0 c.requires.h_value.0 c.args.other.at c.args.other.len c.requires.name_value.0 c.requires.name_value.1 refl _ (omega (arith, c.if-g-lt8.false)) c.if-need-other.true c.insert_c.ensures

pub overflow_add-need : goal.overflow_add-need
overflow_add-need c =
    omega (arith, c.requires.h_value, entry_size_most c.args.e (length c.args.new.name.now), c.requires.sane.0)

pub insert_d-requires : goal.insert_d-requires
insert_d-requires c =
    record { sane = c.requires.sane; end_value = (c.requires.end_value.0, c.requires.end_value.1.0); spot = c.requires.spot; name_len_bound = (c.requires.h_value.1.1, omega (arith, c.requires.h_value, c.if-need-g.true)); header_le_u = (c.requires.scanned.touch_from, (c.requires.scanned.touch_end ∙ sym c.requires.end_value.0, c.requires.scanned.touch_mod)) }

pub returns-then-need-g : goal.returns-then-need-g
returns-then-need-g c =
    room_d _ c.args.b.now c.args.new.name.now c.args.new.to c.args.g.first.at c.args.g.first.len [] c.args.g.last.at c.args.g.last.len 0 c.args.need c.args.new.hash c.requires.scanned c.requires.end_value.1.1 c.requires.h_value.1.0 c.requires.h_value.0 c.args.other.at c.args.other.len c.requires.name_value.0 c.requires.name_value.1 refl _ (omega (arith, c.if-need-other.false)) c.if-need-g.true c.insert_d.ensures

pub returns : goal.returns
returns c =
    room_no_cd _ c.args.b.now c.args.new.name.now c.args.new.to c.args.g.first.at c.args.g.first.len [] c.args.g.last.at c.args.g.last.len 0 c.args.need c.args.new.hash c.requires.scanned c.requires.end_value.1.1 c.requires.h_value.1.0 c.requires.h_value.0 c.args.other.at c.args.other.len c.requires.name_value.0 c.requires.name_value.1 refl (omega (arith, c.if-need-other.false)) (omega (arith, c.if-need-g.false))
