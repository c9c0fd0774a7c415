-- An insert by case (c): the entry in a gap other than T, and 8 bytes off T's end.
-- Assumes nothing.
use Prim.Native.Nat.{ℕ, ◌+◌, ◌-◌, ◌*◌, ◌/◌, ◌≤◌}
use native.Mathlib.Omega.{arith}
use mathlib.Core.Bool.{Bool, true, false}
use mathlib.Core.Path.{◌≡◌, sym, ◌∙◌, ap, ap₂, subst}
use mathlib.Core.List.{List, [], ◌∷◌, ◌++◌, append_assoc, append-nil}
use lib.ListN.{length, take, drop, length-append, length-take, length-drop, take-append-drop}
use Rattle.be.proofs.Bools.{keep_append}
use Rattle.name.proofs.Hashing.{hash_lt}
use Rattle.be.specs.Bytes.{bytes, written, Write}
use Rattle.edition.specs.declared.Edition.{Edition}
use Rattle.edition.specs.Edition.{entry_size, Sane}
use Rattle.name.specs.Name.{hash_of}
use Rattle.dir.specs.declared.Target.{Target}
use Rattle.dir_block_rules.specs.Record.{Rec, size, is_gap, is_entry, entries, gap_writes}
use Rattle.dir_block_rules.specs.Block.{Slot, slot, slot_bytes, records, slots, stale_of}
use Rattle.dir_block_rules.specs.Verdict.{Accepted}
use Rattle.dir_block_rules.specs.Change.{changed, entry_writes, index_writes, insert_slot}
use Rattle.dir_block_rules.proofs.CutJoin.{join, Laid, join_append, laid_append, laid_front, laid_back}
use Rattle.dir_block_rules.proofs.BlockParts.{build, Fit, tail_bytes}
use Rattle.dir_block_rules.proofs.WritesLeave.{written_append, gap_written, index_written, free, Gapful, length_free, free_laid}
use Rattle.be.proofs.Writes.{length_written}
use Rattle.dir_block_rules.proofs.IndexedEntries.{kept_all}
use Rattle.dir_block_rules.proofs.GoodParts.{Good}
use Rattle.dir_block_rules.proofs.InsertWrites.{placed, entered}
use Rattle.edition.proofs.Sizes.{entry_size_eights}
use Rattle.dir_block_rules.proofs.InsertGood.{new_records, new_apart, new_laid, new_good, gapful, free_entries, free_follows}
use Rattle.dir_block_rules.proofs.GapsApart.{Follows, follows, follows_front, follows_back, follows_append, last_gap?, last_no}
use Rattle.dir_block_rules.proofs.AcceptedParts.{fit_of, good_of, block_around, index_bytes, place_of, fit_insert}
use Rattle.dir_block_rules.proofs.ChangeAccepted.{After, finish, short, total_long, three_long, long_index, length_insert}
use Rattle.dir_block_rules.proofs.InsertFree.{Asked, asked_small}

module _ (e : Edition) (sane : Sane e) (b : List ℕ) (h : bytes b ≡ true) (a : Accepted e b) (i : Target) (n : List ℕ) (ask : Asked e b n i)
    (xs : List Rec) (g : Rec) (ys : List Rec) (t : Rec) (q : records e b ≡ xs ++ (g ∷ (ys ++ (t ∷ [])))) (gp : is_gap g ≡ true) (tp : is_gap t ≡ true)
    (fits : entry_size e (length n) ≤ size g) (eight : 8 ≤ size t) (none : stale_of b ≡ 0) where
  here : Laid e (e.header + length (join xs)) (g ∷ (ys ++ (t ∷ [])))
  here = place_of e sane b h a xs (g ∷ []) (ys ++ (t ∷ [])) q

  there : Laid e (g.off + size g + length (join ys)) (t ∷ [])
  there = laid_back e (g.off + size g) ys (t ∷ []) (rw here.0 here.2)

  -- what T keeps, and what the index takes of it
  pub kept : List ℕ
  kept = take (size t - 8) t.raw

  taken : List ℕ
  taken = drop (size t - 8) t.raw

  pub kept_long : length kept ≡ size t - 8
  unfolding kept
  kept_long = simp length-take (omega arith)

  taken_long : length taken ≡ 8
  unfolding taken
  taken_long = simp length-drop (omega arith)

  gapful_kept : Gapful kept
  gapful_kept = gapful kept (rw kept_long (omega (arith, there.1.eights)))

  unfoldable pub behind : List Rec
  behind = ys ++ free t.off kept

  all_long : g.off + size g + length (join ys) + size t + 8 * length (slots b) + 8 ≡ length b
  all_long =
      omega (
        arith,
        total_long e sane b h a,
        three_long e sane b h a xs (g ∷ []) (ys ++ (t ∷ [])) q,
        ap length (append-nil g.raw),
        here.0,
        ap length (join_append ys (t ∷ [])),
        length-append (join ys) (t.raw ++ []),
        ap length (append-nil t.raw),
      )

  unfoldable pub index_c : List Slot
  index_c = insert_slot (slot (hash_of e n) (g.off / 8)) (slots b)

  laid_behind : Laid e (g.off + size g) behind
  unfolding behind
  laid_behind =
      laid_append e (g.off + size g) ys (free t.off kept) (laid_front e (g.off + size g) ys (t ∷ []) (rw here.0 here.2))
      (subst (λ (o : ℕ). Laid e o (free t.off kept)) there.0
      (free_laid e t.off kept gapful_kept (omega (arith, kept_long, all_long, short e sane b h a)) (omega (arith, there.0, all_long, short e sane b h a))))

  apart_all : Follows false (xs ++ (g ∷ (ys ++ (t ∷ []))))
  apart_all = rw q at (follows (records e b) (good_of e sane b h a).gaps_apart)

  apart_behind : Follows true behind
  unfolding behind
  apart_behind =
      let f : Follows true (ys ++ (t ∷ [])) = rw gp at (follows_back false xs (g ∷ (ys ++ (t ∷ []))) apart_all).1 in
      let l : last_gap? true ys ≡ false = last_no (last_gap? true ys) (is_gap t) (follows_back true ys (t ∷ []) f).0 tp in
      follows_append true ys (free t.off kept) (follows_front true ys (t ∷ []) f)
      (subst (λ (z : Bool). Follows z (free t.off kept)) (sym l) (subst (λ (z : List Rec). Follows false z) (append-nil (free t.off kept)) (free_follows t.off kept [] tt)))

  entries_behind : entries behind ≡ entries ys
  unfolding behind
  entries_behind = keep_append is_entry ys (free t.off kept) ∙ ap (λ (l : List Rec). entries ys ++ l) (free_entries t.off kept) ∙ append-nil (entries ys)

  pub entries_old : entries (records e b) ≡ entries xs ++ entries behind
  entries_old =
      ap entries q ∙ keep_append is_entry xs (g ∷ (ys ++ (t ∷ [])))
      ∙ ap (λ (l : List Rec). entries xs ++ l)
      (rw gp (keep_append is_entry ys (t ∷ []) ∙ ap (λ (l : List Rec). entries ys ++ l) (rw tp) ∙ append-nil (entries ys)) ∙ sym entries_behind)

  unfoldable pub records_c : List Rec
  records_c = new_records e sane i n xs g.raw behind g.off

  laid_c : Laid e e.header records_c
  unfolding records_c
  laid_c =
      new_laid e sane i n xs g.raw behind g.off (asked_small e b n i ask) (sym here.0) fits here.1.eights (omega (arith, all_long, short e sane b h a))
      (laid_front e e.header xs (g ∷ (ys ++ (t ∷ []))) (rw q at (fit_of e sane b h a).laid)) laid_behind

  good_c : Good e records_c index_c 0
  unfolding records_c index_c
  good_c =
      new_good e sane i n xs g.raw behind g.off (records e b) (slots b) (slots b) (stale_of b) 0 (good_of e sane b h a)
      (kept_all (slots b) 0 ((good_of e sane b h a).index.stales ∙ none)) entries_old laid_c
      (new_apart e sane i n xs g.raw behind g.off (asked_small e b n i ask) (follows_front false xs (g ∷ (ys ++ (t ∷ []))) apart_all) apart_behind)
      ask.name_legal (rw entries_old at ask.number_legal) (asked_small e b n i ask) ask.not_fixed (rw entries_old at ask.absent)

  fit_c : Fit e (take e.header b) records_c index_c 0
  unfolding index_c
  fit_c =
      record {
        head = (fit_of e sane b h a).head;
        laid = laid_c;
        few = rw (length_insert (slot (hash_of e n) (g.off / 8)) (slots b)) (omega (arith, all_long, short e sane b h a));
        fewer = omega arith;
        fits = fit_insert (slot (hash_of e n) (g.off / 8)) (slots b) (hash_lt e n ask.name_bytes) (omega (arith, all_long, short e sane b h a)) (fit_of e sane b h a).fits;
      }

  unfoldable pub writes_of_c : List Write
  writes_of_c = entry_writes e i n g.off (g.off + size g) ++ (gap_writes t.off (size t - 8) ++ index_writes (length b) index_c 0)

  I : List ℕ
  I = index_bytes e sane b h a

  around : b ≡ take e.header b ++ (join xs ++ (g.raw ++ (join ys ++ (kept ++ (taken ++ I)))))
  unfolding kept taken I
  around =
      let hd : List ℕ = take e.header b in
      block_around e sane b h a xs (g ∷ []) (ys ++ (t ∷ [])) q
      ∙ ap₂ (λ (l m : List ℕ). hd ++ (join xs ++ (l ++ (m ++ index_bytes e sane b h a)))) (append-nil g.raw)
      (join_append ys (t ∷ []) ∙ ap (λ (l : List ℕ). join ys ++ l) (append-nil t.raw ∙ sym (take-append-drop (size t - 8) t.raw)))
      ∙ ap (λ (l : List ℕ). hd ++ (join xs ++ (g.raw ++ l))) (simp append_assoc)

  F : List ℕ
  F = take e.header b ++ join (xs ++ (placed e g.off i n g.raw ++ ys))

  step_1 : written b (entry_writes e i n g.off (g.off + size g)) ≡ F ++ (kept ++ (taken ++ I))
  unfolding F
  step_1 =
      ap (λ (l : List ℕ). written l (entry_writes e i n g.off (g.off + size g))) around
      ∙ entered e i n (take e.header b) xs g.raw ys (kept ++ (taken ++ I)) g.off (rw (length-append, (fit_of e sane b h a).head) (sym here.0)) fits
      (gapful (drop (entry_size e (length n)) g.raw) (simp length-drop (omega (arith, entry_size_eights e (length n), here.1.eights))))

  index_long : length I ≡ 8 * length (slots b) + 8
  unfolding I
  index_long = long_index e sane b h a

  FLong : length F ≡ t.off
  FLong =
      omega (
        arith,
        ap length step_1,
        length_written b (entry_writes e i n g.off (g.off + size g)),
        length-append F (kept ++ (taken ++ I)),
        length-append kept (taken ++ I),
        length-append taken I,
        kept_long,
        taken_long,
        index_long,
        all_long,
        there.0,
      )

  step_2 : written (F ++ (kept ++ (taken ++ I))) (gap_writes t.off (size t - 8)) ≡ (F ++ join (free t.off kept)) ++ (taken ++ I)
  step_2 =
      ap (λ (m : ℕ). written (F ++ (kept ++ (taken ++ I))) (gap_writes t.off m)) (sym kept_long)
      ∙ gap_written F kept (taken ++ I) t.off FLong gapful_kept ∙ sym (append_assoc F (join (free t.off kept)) (taken ++ I))

  step_3 : written ((F ++ join (free t.off kept)) ++ (taken ++ I)) (index_writes (length b) index_c 0) ≡ (F ++ join (free t.off kept)) ++ (slot_bytes index_c ++ tail_bytes (length index_c) 0)
  unfolding index_c
  step_3 =
      index_written (F ++ join (free t.off kept)) (taken ++ I) index_c 0 (length b)
      (omega (arith, length-append F (join (free t.off kept)), length_free t.off kept gapful_kept, length-append taken I, FLong, kept_long, taken_long, index_long, all_long, there.0))
      (omega (arith, length-append taken I, taken_long, index_long, length_insert (slot (hash_of e n) (g.off / 8)) (slots b)))

  joined : F ++ join (free t.off kept) ≡ take e.header b ++ join records_c
  unfolding F records_c behind new_records
  joined =
      append_assoc (take e.header b) (join (xs ++ (placed e g.off i n g.raw ++ ys))) (join (free t.off kept))
      ∙ ap (λ (l : List ℕ). take e.header b ++ l)
      (sym (join_append (xs ++ (placed e g.off i n g.raw ++ ys)) (free t.off kept)) ∙ ap join (append_assoc xs (placed e g.off i n g.raw ++ ys) (free t.off kept))
      ∙ ap (λ (l : List Rec). join (xs ++ l)) (append_assoc (placed e g.off i n g.raw) ys (free t.off kept)))

  written_c : written b writes_of_c ≡ build (take e.header b) records_c index_c 0
  unfolding writes_of_c
  written_c =
      written_append b (entry_writes e i n g.off (g.off + size g)) (gap_writes t.off (size t - 8) ++ index_writes (length b) index_c 0)
      ∙ ap (λ (l : List ℕ). written l (gap_writes t.off (size t - 8) ++ index_writes (length b) index_c 0)) step_1
      ∙ written_append (F ++ (kept ++ (taken ++ I))) (gap_writes t.off (size t - 8)) (index_writes (length b) index_c 0)
      ∙ ap (λ (l : List ℕ). written l (index_writes (length b) index_c 0)) step_2
      ∙ step_3
      ∙ ap (λ (l : List ℕ). l ++ (slot_bytes index_c ++ tail_bytes (length index_c) 0)) joined
      ∙ append_assoc (take e.header b) (join records_c) (slot_bytes index_c ++ tail_bytes (length index_c) 0)

  pub insert_c : After e b (changed e b writes_of_c) records_c index_c 0
  insert_c = finish e sane b h a writes_of_c records_c index_c 0 written_c fit_c good_c
