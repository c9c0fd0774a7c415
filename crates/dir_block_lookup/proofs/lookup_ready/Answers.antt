use native.Mathlib.Omega.{arith}
use Prim.Native.Nat.{◌+◌}
use mathlib.Core.Path.{sym, ◌∙◌}
use lib.ListN.{get_or}
use Rattle.edition.proofs.Sizes.{entry_size_least}
use Rattle.dir_block_laws.proofs.RecordSteps.{count_read, end_read}
use Rattle.dir_block_laws.proofs.SlotSearch.{slots_room}
use Rattle.dir_block_laws.proofs.GapsBeside.{found_room}
use Rattle.dir_block_laws.proofs.FoundLegal.{found_legal}
use Rattle.dir_block_lookup.proofs.Finds.{hits, misses, counts}
use Rattle.dir_block_lookup.proofs.CallAnswers.{lookup_found, lookup_absent, lookup_asked}
use Rattle.dir_block_lookup.proofs.lookup_ready.Goals as goal

pub overflow_sub-n : goal.overflow_sub-n
overflow_sub-n c =
    omega (arith, slots_room _ c.args.b.now c.requires.sane.0 c.requires.sane.1)

pub be32-count-requires : goal.be32-count-requires
be32-count-requires c =
    omega (arith, slots_room _ c.args.b.now c.requires.sane.0 c.requires.sane.1)

pub overflow_sub-n-2 : goal.overflow_sub-n-2
overflow_sub-n-2 c =
    omega (arith, slots_room _ c.args.b.now c.requires.sane.0 c.requires.sane.1)

pub overflow_sub-n-3 : goal.overflow_sub-n-3
overflow_sub-n-3 c =
    omega (arith, slots_room _ c.args.b.now c.requires.sane.0 c.requires.sane.1, count_read c.args.b.now _ c.be32-count.ensures.0)

pub seek-s-requires : goal.seek-s-requires
seek-s-requires c =
    let a = c.args in
    let q = c.requires in
    let n = count_read a.b.now _ c.be32-count.ensures.0 in
    record { sane = q.sane; end_value = (end_read a.b.now _ n, n); h_value = q.h_value }

pub target_at-target-requires : goal.target_at-target-requires
target_at-target-requires c =
    let a = c.args in
    let q = c.requires in
    let h = c.in-Some.hit in
    let s = hits _ _ c.seek-s.ensures.found h c.in-Some.is in
    let r = found_room _ q.sane.0 a.b.now a.name.now _ h.index h.at q.sane.1 s.0 s.1 s.2 (end_read a.b.now _ (count_read a.b.now _ c.be32-count.ensures.0)) in
    (q.sane.0, omega (arith, r, slots_room _ a.b.now q.sane.0 q.sane.1, entry_size_least a.e (get_or a.b.now (h.at + 8) 0)))

pub returns-in-Some : goal.returns-in-Some
returns-in-Some c =
    let q = c.requires in
    let s = hits _ _ c.seek-s.ensures.found _ c.in-Some.is in
    lookup_found _ _ _ q.sane.0 q.sane.1 (found_legal _ q.sane.0 _ _ q.sane.1 s.0) _ (counts _ _ c.seek-s.ensures.found) _ s.0 s.2 _ c.target_at-target.ensures

pub returns-then-not-legal : goal.returns-then-not-legal
returns-then-not-legal c = lookup_asked _ _ _ c.requires.sane.1.ok (sym c.legal.ensures ∙ c.if-not-legal.true)

pub returns : goal.returns
returns c =
    let q = c.requires in
    lookup_absent _ _ _ q.sane.0 q.sane.1 (sym c.legal.ensures ∙ c.if-not-legal.false) _ (counts _ _ c.seek-s.ensures.found)
    (misses _ _ c.seek-s.ensures.found (λ h. c.in_default.not-Some h))
