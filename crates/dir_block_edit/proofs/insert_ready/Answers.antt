use Prim.Native.Nat.{ℕ, suc, ◌<◌}
use native.Mathlib.Omega.{arith}
use mathlib.Core.Path.{◌≡◌, refl, sym, ◌∙◌, ap, ap₂, subst}
use mathlib.Core.Bool.{Bool, true, false}
use mathlib.Core.List.{List, ◌∷◌}
use lib.ListN.{length}
use Rattle.be.specs.Bytes.{bytes, written}
use Rattle.edition.specs.declared.Edition.{Edition}
use Rattle.edition.specs.Edition.{entry_size, Sane}
use Rattle.name.specs.Name.{legal_name, fixed_name}
use Rattle.dir.specs.declared.Target.{Target}
use Rattle.dir.specs.Target.{legal_in}
use Rattle.dir_block_rules.specs.Record.{gaps, besides}
use Rattle.dir_block_rules.specs.Block.{records, stale_of}
use Rattle.dir_block_rules.specs.Room.{has_room}
use Rattle.dir_block_rules.specs.Lookup.{sought}
use Rattle.dir_block_lookup.proofs.Finds.{hit_is}
use Rattle.dir_block_rules.specs.Verdict.{own_of, Pair, pair}
use Rattle.dir_block_rules.specs.Change.{best_of, insert_writes}
use Rattle.dir_block_rules.proofs.EachCall.{name_lt}
use Rattle.dir_block_rules.proofs.LookupFinds.{hit_of}
use Rattle.dir_block_laws.specs.Tiled.{Tiled, Ready}
use Rattle.dir_block_laws.specs.UsedTable.{used_table}
use Rattle.dir_block_laws.specs.Pass.{Surveyed}
use Rattle.dir_block_laws.proofs.RecordSteps.{count_read, stale_read, end_read}
use Rattle.dir_block_laws.proofs.SlotSearch.{slots_room, stale_within, tiled}
use Rattle.dir_block_laws.proofs.UsedGap.{from_others}
use Rattle.dir_block_laws.proofs.OtherGaps.{survey_small}
use Rattle.dir_block_laws.proofs.InsertStores.{insert_tiled}
use Rattle.dir_block_laws.proofs.StoresTiled.{stores_changed}
use Rattle.dir_block_edit.specs.Chosen.{chosen}
use Rattle.dir_block_edit.proofs.RoomTaken.{insert_there, insert_no_room, insert_made}
use Rattle.dir_block_edit.proofs.insert_ready.Goals as goal

stale-small : (e : Edition) → Sane e → (b : List ℕ) → Ready e b → (st : ℕ) → st ≡ stale_of b → st < 8192
stale-small e sane b r st q =
    let z = slots_room e b sane r in
    omega (arith, stale_within e b r)

-- what the code knows of the block c that an insert leaves, from the survey of b
module _ (e : Edition) (sane : Sane e) (b n : List ℕ) (i : Target) (r : Ready e b) (nb : bytes n ≡ true) (ln : legal_name e n ≡ true)
    (li : legal_in e (own_of e b) i ≡ true) (fx : fixed_name n ≡ false) (ht : (sought e b n).hit ≡ false) (rm : has_room e b n ≡ true)
    (c : List ℕ) (w : c ≡ written b (insert_writes e b n i)) where
  left-tiled : Tiled e c
  left-tiled = subst (λ (l : List ℕ). Tiled e l) (sym w) (insert_tiled e sane b n i r nb ln li fx ht rm)

  left-best : (st u k : ℕ) (p : Pair) (ps : List Pair) → st ≡ stale_of b → length ps ≡ 3 → Surveyed e b (p ∷ ps) u k
      → best_of 3 (gaps (records e c)) ≡ used_table (entry_size e (length n)) st (pair u k) (p ∷ ps)
  left-best st u k p ps a m v =
      ap (λ (l : List ℕ). best_of 3 (gaps (records e l))) w
      ∙ from_others e sane b n i r
      (record { name_bytes = nb; name_legal = ln; number_legal = li; not_fixed = fx; absent = sym (hit_of e sane b r.are_bytes r.ok n) ∙ ht })
      rm p ps
      (ap (λ (x : ℕ). best_of 4 (besides x (gaps (records e b)))) v.last.touch_off
      ∙ ap (λ (j : ℕ). best_of (suc j) (besides u (gaps (records e b)))) (sym m) ∙ v.others)
      ∙ ap₂ (λ (x y : ℕ). used_table (entry_size e (length n)) (stale_of b) (pair x y) (p ∷ ps)) v.last.touch_off v.last.touch_size
      ∙ ap (λ (x : ℕ). used_table (entry_size e (length n)) x (pair u k) (p ∷ ps)) (sym a)

pub overflow_sub-n : goal.overflow_sub-n
overflow_sub-n c =
    omega (arith, slots_room _ c.args.b.now c.requires.sane.0 c.requires.sane.1)

pub be32-c-requires : goal.be32-c-requires
be32-c-requires c =
    omega (arith, slots_room _ c.args.b.now c.requires.sane.0 c.requires.sane.1)

pub overflow_sub-n-2 : goal.overflow_sub-n-2
overflow_sub-n-2 c =
    omega (arith, slots_room _ c.args.b.now c.requires.sane.0 c.requires.sane.1)

pub be32-s-requires : goal.be32-s-requires
be32-s-requires c =
    omega (arith, slots_room _ c.args.b.now c.requires.sane.0 c.requires.sane.1)

pub overflow_sub-end : goal.overflow_sub-end
overflow_sub-end c =
    omega (arith, slots_room _ c.args.b.now c.requires.sane.0 c.requires.sane.1, count_read c.args.b.now c.be32-c.result c.be32-c.ensures.0)

pub overflow_sub-end-2 : goal.overflow_sub-end-2
overflow_sub-end-2 c =
    omega (arith, slots_room _ c.args.b.now c.requires.sane.0 c.requires.sane.1, count_read c.args.b.now c.be32-c.result c.be32-c.ensures.0)

pub seek-f-requires : goal.seek-f-requires
seek-f-requires c =
    let n = count_read c.args.b.now c.be32-c.result c.be32-c.ensures.0 in
    record { sane = c.requires.sane; end_value = (end_read c.args.b.now c.be32-c.result n, n); h_value = c.requires.h_value }

pub returns-then-is_some : goal.returns-then-is_some
returns-then-is_some c =
    insert_there _ c.requires.sane.0 c.args.b.now c.args.name.now c.args.to c.requires.sane.1 c.requires.name_value.0 c.requires.name_value.1.0 c.requires.name_value.1.1.0 (hit_is _ _ c.seek-f.ensures.found ∙ sym c.is_some.ensures ∙ c.if-is_some.true)

pub survey-g-requires : goal.survey-g-requires
survey-g-requires c =
    record { sane = c.requires.sane; end_value = end_read c.args.b.now c.be32-c.result (count_read c.args.b.now c.be32-c.result c.be32-c.ensures.0) }

pub choose-done-requires : goal.choose-done-requires
choose-done-requires c =
    let n = count_read c.args.b.now c.be32-c.result c.be32-c.ensures.0 in record { sane = c.requires.sane; end_value = (end_read c.args.b.now c.be32-c.result n, (n, stale_read c.args.b.now c.be32-s.result c.be32-s.ensures.0)); surveyed = c.survey-g.ensures; h_value = (c.requires.h_value, name_lt _ c.args.name.now c.requires.name_value.0) }

pub used_table-requires : goal.used_table-requires
used_table-requires c =
    let b = c.args.b.now in
    let n = c.args.name.now in
    let h = hit_is _ _ c.seek-f.ensures.found ∙ sym c.is_some.ensures ∙ c.if-is_some.false in
    let rm = sym c.choose-done.ensures.0 ∙ c.if-done.true in
    let w = c.choose-done.ensures.1 ∙ ap (λ (t : Bool). chosen c.args.e t b n c.args.to) c.if-done.true in
    let st = stale_read b c.be32-s.result c.be32-s.ensures.0 in
    let q = c.requires.name_value in record { sane = (c.requires.sane.0, left-tiled _ c.requires.sane.0 b n c.args.to c.requires.sane.1 q.1.1.1 q.0 q.1.0 q.1.1.0 h rm _ w); n_bound = (name_lt _ n q.0, stale-small _ c.requires.sane.0 b c.requires.sane.1 _ st); l1_bound = survey_small _ b (tiled _ b c.requires.sane.1) _ _ _ _ _ c.survey-g.ensures; b_value = left-best _ c.requires.sane.0 b n c.args.to c.requires.sane.1 q.1.1.1 q.0 q.1.0 q.1.1.0 h rm _ w _ _ _ _ _ st refl c.survey-g.ensures }

pub returns-then-done : goal.returns-then-done
returns-then-done c =
    insert_made _ c.requires.sane.0 c.args.b.now c.args.name.now c.args.to c.requires.sane.1 c.requires.name_value.0 c.requires.name_value.1.0
    c.requires.name_value.1.1.0 (hit_is _ _ c.seek-f.ensures.found ∙ sym c.is_some.ensures ∙ c.if-is_some.false) (sym c.if-done.true ∙ c.choose-done.ensures.0) _
    (stores_changed _ c.requires.sane.0 c.args.b.now _ _ _ (c.choose-done.ensures.1 ∙ ap (λ (t : Bool). chosen c.args.e t c.args.b.now c.args.name.now c.args.to) c.if-done.true) c.used_table.ensures)

pub returns : goal.returns
returns c =
    insert_no_room _ c.requires.sane.0 c.args.b.now c.args.name.now c.args.to c.requires.sane.1 c.requires.name_value.0 c.requires.name_value.1.0
    c.requires.name_value.1.1.0 (hit_is _ _ c.seek-f.ensures.found ∙ sym c.is_some.ensures ∙ c.if-is_some.false) (sym c.if-done.false ∙ c.choose-done.ensures.0) _
    (c.choose-done.ensures.1 ∙ ap (λ (t : Bool). chosen c.args.e t c.args.b.now c.args.name.now c.args.to) c.if-done.false)
