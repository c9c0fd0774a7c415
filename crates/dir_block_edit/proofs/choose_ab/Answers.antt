use Rattle.dir_block_index.proofs.LiveSlotsPacked.{few_stale}
use native.Mathlib.Omega.{arith}
use mathlib.Core.Path.{sym, ◌∙◌}
use mathlib.Core.List.{[]}
use lib.ListN.{length}
use Rattle.edition.proofs.Sizes.{entry_size_least}
use Rattle.dir_block_laws.proofs.SlotSearch.{slots_room, tiled}
use Rattle.dir_block_edit.proofs.RoomTaken.{room_a, room_b, room_none, first_inside}
use Rattle.dir_block_edit.proofs.choose_ab.Goals as goal

pub insert_a-requires : goal.insert_a-requires
insert_a-requires c =
    record { sane = c.requires.sane; end_value = c.requires.end_value; spot = c.requires.spot; inside = (first_inside _ c.args.b.now c.args.new.name.now c.args.new.to c.args.g.first.at c.args.g.first.len [] c.args.g.last.at c.args.g.last.len c.args.stale c.args.need c.args.new.hash c.requires.scanned c.requires.end_value.1.1.0 c.requires.h_value.1.0 c.requires.h_value.0 (tiled _ c.args.b.now c.requires.sane.1) (omega (arith, c.requires.h_value, entry_size_least c.args.e (length c.args.new.name.now), c.if-need-g.true)), (c.requires.h_value.1.1, omega (arith, c.requires.h_value, c.if-need-g.true))) }

pub returns-then-need-g : goal.returns-then-need-g
returns-then-need-g c =
    room_a _ c.args.b.now c.args.new.name.now c.args.new.to c.args.g.first.at c.args.g.first.len [] c.args.g.last.at c.args.g.last.len c.args.stale c.args.need c.args.new.hash c.requires.scanned c.requires.end_value.1.1.0 c.requires.h_value.1.0 c.requires.h_value.0 _ (omega (arith, c.requires.end_value)) c.if-need-g.true c.insert_a.ensures

pub overflow_mul-stale : goal.overflow_mul-stale
overflow_mul-stale c =
    omega (arith, slots_room _ c.args.b.now c.requires.sane.0 c.requires.sane.1, c.requires.end_value, few_stale _ c.requires.sane.0 c.args.b.now c.requires.sane.1 c.args.end c.args.count c.args.stale c.args.p c.args.new.hash 0 c.requires.end_value.0 c.requires.end_value.1.0 c.requires.end_value.1.1.0 c.requires.end_value.1.1.1 c.requires.spot)

pub overflow_add-g : goal.overflow_add-g
overflow_add-g c =
    omega (arith, slots_room _ c.args.b.now c.requires.sane.0 c.requires.sane.1, c.requires.end_value, few_stale _ c.requires.sane.0 c.args.b.now c.requires.sane.1 c.args.end c.args.count c.args.stale c.args.p c.args.new.hash 0 c.requires.end_value.0 c.requires.end_value.1.0 c.requires.end_value.1.1.0 c.requires.end_value.1.1.1 c.requires.spot, c.requires.scanned.touch_end)

pub insert_b-requires : goal.insert_b-requires
insert_b-requires c =
    record { sane = c.requires.sane; end_value = c.requires.end_value; spot = c.requires.spot; name_len_bound = (c.requires.h_value.1.1, omega (arith, c.requires.h_value, c.if-need-g-2.true)); header_le_u = (c.requires.scanned.touch_from, (c.requires.scanned.touch_end ∙ sym c.requires.end_value.0, c.requires.scanned.touch_mod)) }

pub returns-then-need-g-2 : goal.returns-then-need-g-2
returns-then-need-g-2 c =
    room_b _ c.args.b.now c.args.new.name.now c.args.new.to c.args.g.first.at c.args.g.first.len [] c.args.g.last.at c.args.g.last.len c.args.stale c.args.need c.args.new.hash c.requires.scanned c.requires.end_value.1.1.0 c.requires.h_value.1.0 c.requires.h_value.0 _ (omega (arith, c.requires.end_value)) (omega (arith, c.if-need-g.false)) c.if-need-g-2.true c.insert_b.ensures

pub returns : goal.returns
returns c =
    room_none _ c.args.b.now c.args.new.name.now c.args.new.to c.args.g.first.at c.args.g.first.len [] c.args.g.last.at c.args.g.last.len c.args.stale c.args.need c.args.new.hash c.requires.scanned c.requires.end_value.1.1.0 c.requires.h_value.1.0 c.requires.h_value.0 (omega (arith, c.requires.end_value)) (omega (arith, c.if-need-g.false)) (omega (arith, c.if-need-g-2.false))
