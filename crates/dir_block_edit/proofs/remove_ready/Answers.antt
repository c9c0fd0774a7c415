use native.Mathlib.Omega.{arith}
use mathlib.Core.Path.{sym, ◌∙◌}
use Rattle.dir_block_lookup.proofs.Finds.{hits, misses}
use Rattle.dir_block_laws.proofs.RecordSteps.{count_read, end_read}
use Rattle.dir_block_laws.proofs.SlotSearch.{slots_room}
use Rattle.dir_block_laws.proofs.EditAnswers.{removed_done, removed_absent, removed_asked}
use Rattle.dir_block_laws.proofs.FoundLegal.{found_legal}
use Rattle.dir_block_edit.proofs.remove_ready.Goals as goal

pub overflow_sub-n : goal.overflow_sub-n
overflow_sub-n c =
    omega (arith, slots_room _ c.args.b.now c.requires.sane.0 c.requires.sane.1)

pub be32-c-requires : goal.be32-c-requires
be32-c-requires c =
    omega (arith, slots_room _ c.args.b.now c.requires.sane.0 c.requires.sane.1)

pub overflow_sub-end : goal.overflow_sub-end
overflow_sub-end c =
    omega (arith, slots_room _ c.args.b.now c.requires.sane.0 c.requires.sane.1, count_read c.args.b.now c.be32-c.result c.be32-c.ensures.0)

pub overflow_sub-end-2 : goal.overflow_sub-end-2
overflow_sub-end-2 c =
    omega (arith, slots_room _ c.args.b.now c.requires.sane.0 c.requires.sane.1, count_read c.args.b.now c.be32-c.result c.be32-c.ensures.0)

pub seek-f-requires : goal.seek-f-requires
seek-f-requires c =
    let b = c.args.b.now in
    let n = count_read b c.be32-c.result c.be32-c.ensures.0 in
    record { sane = c.requires.sane; end_value = (end_read b c.be32-c.result n, n); h_value = c.requires.name_value.1 }

pub remove_found-requires : goal.remove_found-requires
remove_found-requires c =
    let b = c.args.b.now in
    let m = end_read b c.be32-c.result (count_read b c.be32-c.result c.be32-c.ensures.0) in
    let h = hits _ _ c.seek-f.ensures.found _ c.in-Some.is in
    record { sane = c.requires.sane; end_value = m; name_value = (h.0, (h.1, h.2)); name_value_2 = c.requires.name_value.0 }

pub returns-in-Some : goal.returns-in-Some
returns-in-Some c =
    let q = c.requires in
    let h = (hits _ _ c.seek-f.ensures.found _ c.in-Some.is).0 in
    removed_done _ q.sane.0 _ _ q.sane.1 (found_legal _ q.sane.0 _ _ q.sane.1 h) q.name_value.0 _ h c.remove_found.ensures

pub returns-then-not-legal : goal.returns-then-not-legal
returns-then-not-legal c =
    let q = c.requires in
    removed_asked _ q.sane.0 _ _ q.sane.1 (sym c.legal.ensures ∙ c.if-not-legal.true)

pub returns : goal.returns
returns c =
    let q = c.requires in
    removed_absent _ q.sane.0 _ _ q.sane.1 (sym c.legal.ensures ∙ c.if-not-legal.false) q.name_value.0
    (misses _ _ c.seek-f.ensures.found (λ h. c.in_default.not-Some h))
