-- The best-gap table that an insert leaves, from T and the longest other gaps before it.
-- Assumes nothing.
use Prim.Native.Nat.{ℕ, ◌+◌, ◌-◌, ◌*◌, ◌/◌, ◌%◌, ◌≤◌, ◌<◌}
use native.Mathlib.Omega.{arith}
use mathlib.Core.Bool.{Bool, true, false, cond, ◌&&◌, false≢true}
use mathlib.Core.Path.{◌≡◌, refl, sym, ◌∙◌, ap, ap₂, subst}
use mathlib.Core.List.{List, [], ◌∷◌, ◌++◌, append_assoc, append-nil}
use lib.Dec.{eqb, leb}
use lib.ListN.{length, take, drop, length-append, length-take, length-drop}
use borrow.Author.Tests.{le-leb, lt-leb, leb-true, leb-false, lt-ltb, le-ltb, eq-eqb, ne_eqb}
use Rattle.be.specs.Lists.{some_of, keep, without_first}
use Rattle.be.specs.Bytes.{bytes, written, Write}
use Rattle.be.proofs.Bools.{and_left, and_right, and_false, by_cases, keep_append}
use Rattle.be.proofs.Splits.{Split}
use Rattle.be.proofs.BytesStay.{bytes_written}
use Rattle.edition.specs.declared.Edition.{Edition}
use Rattle.edition.specs.Edition.{entry_size, Sane}
use Rattle.edition.proofs.Sizes.{entry_size_least, entry_size_eights}
use Rattle.name.specs.Name.{hash_of}
use Rattle.dir.specs.declared.Target.{Target}
use Rattle.dir_block_rules.specs.Record.{Rec, rec, size, is_gap, gaps, besides, gap_writes, join}
use Rattle.dir_block_rules.specs.Block.{records, Slot, slots, slot, slot_bytes, stale_of, data_end, is_stale, is_live}
use Rattle.dir_block_rules.specs.Room.{room_of, touching, case_a, case_b, case_c, case_d, has_room}
use Rattle.dir_block_rules.specs.Verdict.{Pair, pair}
use Rattle.dir_block_rules.specs.Change.{longest, best_of, changed, insert_writes, writes_a, writes_b, writes_c, writes_d, entry_writes, index_writes, insert_slot}
use Rattle.dir_block_rules.proofs.BlockParts.{length_slot_bytes}
use Rattle.dir_block_rules.proofs.AcceptedParts.{keep_find, FoundIn, index_bytes, place_of, end_of_data}
use Rattle.dir_block_rules.proofs.BestTable.{longest_holds}
use Rattle.dir_block_rules.proofs.ChangeAccepted.{After, longest_in}
use Rattle.dir_block_rules.proofs.EachCall.{name_lt}
use Rattle.dir_block_rules.proofs.InsertCaseC.{insert_c, records_c, writes_of_c, index_c, behind, kept, kept_long}
use Rattle.dir_block_rules.proofs.InsertCases.{Touch, touch, real, unreal}
use Rattle.dir_block_rules.proofs.InsertFree.{Asked, asked_small, Free, free_a, free_b, free_d, insert_free}
use Rattle.dir_block_rules.proofs.InsertGood.{new_records, gap_raw_gap}
use Rattle.dir_block_rules.proofs.InsertWrites.{placed}
use Rattle.dir_block_rules.proofs.StaysBytes.{all_insert}
use Rattle.dir_block_rules.proofs.WritesLeave.{free, length_gap_raw, entry_no_gap}
use Rattle.dir_block_laws.specs.Tiled.{Tiled, Ready}
use Rattle.dir_block_laws.specs.BestSoFar.{ins, ins_at}
use Rattle.dir_block_laws.specs.UsedTable.{less, shorter, longer, into_other, into_last, used_table}
use Rattle.dir_block_laws.proofs.RecordSteps.{laid_all}
use Rattle.dir_block_laws.proofs.SlotSearch.{tiled, stale_within, length_slots}
use Rattle.dir_block_laws.proofs.StoresTiled.{records_changed, tiled_changed}
use Rattle.dir_block_laws.proofs.FewGaps.{Rising, rising_laid, named_by, ins_empty}
use Rattle.dir_block_laws.proofs.JoinedGaps.{into, into_append, best_into}
use Rattle.dir_block_laws.proofs.BestGrows.{take_best}
use Rattle.dir_block_laws.proofs.InsertStores.{first_best}
use Rattle.dir_block_laws.proofs.OtherGaps.{t_laid, t_gaps, t_others, t_rises, t_longest, no_others}
use Rattle.dir_block_laws.proofs.PairPlaced.{best_placed}

-- the gaps of what free bytes leave
free_gaps : (o : ℕ) (c : List ℕ) → gaps (free o c) ≡ free o c
free_gaps o [] = refl
free_gaps o (x ∷ c) = rw (gap_raw_gap o (x ∷ c))

-- put into a table: nothing, if there are no bytes
into_free : (o : ℕ) (c : List ℕ) (ts : List Pair) → length c % 8 ≡ 0 → into (free o c) ts ≡ ins (pair o (length c)) ts
into_free o [] ts h = sym (ins_empty (pair o 0) ts refl)
into_free o (x ∷ c) ts h = ap (λ (n : ℕ). ins (pair o n) ts) (length_gap_raw o (x ∷ c) (omega arith))

zero_more : (k : ℕ) → k ≡ 0 + k
zero_more k = omega arith

module _ (e : Edition) (sane : Sane e) (b n : List ℕ) (i : Target) (r : Ready e b) (ask : Asked e b n i) where
  abbrev E : ℕ
  E = entry_size e (length n)

  abbrev T : Rec
  T = touching (data_end b) (records e b)

  abbrev after : List Pair
  after = best_of 3 (gaps (records e (written b (insert_writes e b n i))))

  some_need : 0 < entry_size e (length n)
  some_need = omega (arith, entry_size_least e (length n))

  -- the table of the records rs that the writes ws leave
  best_after : (ws : List Write) (rs : List Rec) (ss : List Slot) (m : ℕ) → insert_writes e b n i ≡ ws → After e b (changed e b ws) rs ss m
      → after ≡ into (gaps rs) (best_of 3 [])
  best_after ws rs ss m q v =
      let w : After e b (changed e b (insert_writes e b n i)) rs ss m = subst (λ (z : List Write). After e b (changed e b z) rs ss m) (sym q) v in
      let c : List ℕ = written b (insert_writes e b n i) in
      let all : bytes c ≡ true = bytes_written b (insert_writes e b n i) r.are_bytes (all_insert e b n i ask.name_bytes (name_lt e n ask.name_legal)) in
      let t : Tiled e c = tiled_changed e sane b (insert_writes e b n i) all w.accepted in
      best_into 3 e.header [] (gaps (records e c)) refl (rising_laid e e.header (records e c) (laid_all e c t))
      ∙ ap (λ (l : List Rec). into (gaps l) (best_of 3 [])) (sym (records_changed e sane b (insert_writes e b n i) all w.accepted) ∙ w.records_are)

  -- the entry at the start of the bytes c at o
  into_new : (xs : List Rec) (c : List ℕ) (ys : List Rec) (o : ℕ) → length c % 8 ≡ 0
      → into (gaps (new_records e sane i n xs c ys o)) (best_of 3 []) ≡ into (gaps ys) (ins (pair (o + E) (length c - E)) (into (gaps xs) (best_of 3 [])))
  unfolding new_records
  into_new xs c ys o h =
      let d : List ℕ = drop E c in
      let u : ℕ = o + E in
      let l : length d ≡ length c - E = length-drop E c in
      let are : gaps (xs ++ (placed e o i n c ++ ys)) ≡ gaps xs ++ (free u d ++ gaps ys) =
      keep_append is_gap xs (placed e o i n c ++ ys)
      ∙ ap (λ (m : List Rec). gaps xs ++ m)
      (rw (entry_no_gap e o i n (asked_small e b n i ask)) (keep_append is_gap (free u d) ys ∙ ap (λ (m : List Rec). m ++ gaps ys) (free_gaps u d))) in
      ap (λ (m : List Rec). into m (best_of 3 [])) are
      ∙ into_append (gaps xs) (free u d ++ gaps ys) (best_of 3 [])
      ∙ into_append (free u d) (gaps ys) (into (gaps xs) (best_of 3 []))
      ∙ ap (into (gaps ys)) (into_free u d (into (gaps xs) (best_of 3 [])) (omega (arith, entry_size_eights e (length n))) ∙ ap (λ (x : ℕ). ins (pair u x) (into (gaps xs) (best_of 3 []))) l)

  -- (a), (b), (d): the l free bytes at u, up to v
  by_free : (xs : List Rec) (c : List ℕ) (ys : List Rec) (d : List ℕ) (o : ℕ) (ts : List Slot) (m u l v : ℕ)
      → Free e sane b r.are_bytes r.ok i n ask xs c ys d o ts m → o ≡ u → length c ≡ l → u + l ≡ v
      → insert_writes e b n i ≡ entry_writes e i n u v ++ index_writes (length b) (insert_slot (slot (hash_of e n) (u / 8)) ts) m
      → after ≡ into (gaps ys) (ins (pair (u + E) (l - E)) (into (gaps xs) (best_of 3 [])))
  by_free xs c ys d o ts m u l v f x y z q =
      best_after (entry_writes e i n o (o + length c) ++ index_writes (length b) (insert_slot (slot (hash_of e n) (o / 8)) ts) m) (new_records e sane i n xs c ys o)
      (insert_slot (slot (hash_of e n) (o / 8)) ts) m
      (q ∙ sym (ap₂ (λ (x y : ℕ). entry_writes e i n x y ++ index_writes (length b) (insert_slot (slot (hash_of e n) (x / 8)) ts) m) x (ap₂ ◌+◌ x y ∙ z)))
      (insert_free e sane b r.are_bytes r.ok i n ask xs c ys d o ts m f)
      ∙ into_new xs c ys o f.eights
      ∙ ap₂ (λ (x y : ℕ). into (gaps ys) (ins (pair (x + E) (y - E)) (into (gaps xs) (best_of 3 [])))) x y

  -- ---- by each case

  -- (a): the gap g
  module _ (us : List Rec) (g : Rec) (vs : List Rec) (q : gaps (records e b) ≡ us ++ (g ∷ vs)) (m : longest (gaps (records e b)) ≡ g)
      (st : 0 < stale_of b) (in_a : case_a (room_of e b n) ≡ true) (fit : entry_size e (length n) ≤ size g) where
    are_a : insert_writes e b n i ≡ entry_writes e i n g.off (g.off + size g)
        ++ index_writes (length b) (insert_slot (slot (hash_of e n) (g.off / 8)) (without_first is_stale (slots b))) (stale_of b - 1)
    unfolding insert_writes writes_a room_of
    are_a =
        rw in_a
        (ap (λ (x : Rec). entry_writes e i n x.off (x.off + size x)
        ++ index_writes (length b) (insert_slot (slot (hash_of e n) (x.off / 8)) (without_first is_stale (slots b))) (stale_of b - 1)) m)

    best_a : after ≡ into vs (ins (less E (named_by g)) (into us (best_of 3 [])))
    best_a =
        let k : FoundIn is_gap (records e b) us g vs = keep_find is_gap (records e b) us g vs q in
        by_free k.before g.raw k.behind (index_bytes e sane b r.are_bytes r.ok) g.off (without_first is_stale (slots b)) (stale_of b - 1)
        g.off (size g) (g.off + size g)
        (free_a e sane b r.are_bytes r.ok i n ask k.before g k.behind k.is k.passes fit st) refl refl refl are_a
        ∙ ap₂ (λ (x y : List Rec). into y (ins (less E (named_by g)) (into x (best_of 3 [])))) k.before_is k.behind_is

  -- (b): the slots that are not needed, behind T
  abbrev over : Rec → List Write
  over g =
      entry_writes e i n g.off (g.off + size g + 8 * (stale_of b - 1))
      ++ index_writes (length b) (insert_slot (slot (hash_of e n) (g.off / 8)) (keep is_live (slots b))) 0

  b_writes : case_a (room_of e b n) ≡ false → case_b (room_of e b n) ≡ true → insert_writes e b n i ≡ over T
  unfolding insert_writes writes_b room_of
  b_writes x y = rw (x, y) refl

  b_fits : case_b (room_of e b n) ≡ true → E ≤ size T + 8 * (stale_of b - 1)
  unfolding room_of
  b_fits y = leb-true E (size T + 8 * (stale_of b - 1)) (and_right (leb 1 (stale_of b)) (leb E (size T + 8 * (stale_of b - 1))) y)

  slots_taken : length (take (8 * (stale_of b - 1)) (slot_bytes (slots b))) ≡ 8 * (stale_of b - 1)
  slots_taken =
      length-take (8 * (stale_of b - 1)) (slot_bytes (slots b))
      ∙ omega (arith, length_slot_bytes (slots b), length_slots e b r, stale_within e b r)

  -- T is the last record t, behind the records xs
  module _ (xs : List Rec) (t : Rec) (p : records e b ≡ xs ++ (t ∷ [])) (tp : is_gap t ≡ true) (tq : touching (data_end b) (records e b) ≡ t) where
    -- (d)
    are_d : case_a (room_of e b n) ≡ false → case_b (room_of e b n) ≡ false → case_c (room_of e b n) ≡ false
        → insert_writes e b n i ≡ entry_writes e i n t.off (t.off + size t - 8) ++ index_writes (length b) (insert_slot (slot (hash_of e n) (t.off / 8)) (slots b)) 0
    unfolding insert_writes writes_d room_of
    are_d x y z =
        rw (x, y, z)
        (ap (λ (g : Rec). entry_writes e i n g.off (g.off + size g - 8) ++ index_writes (length b) (insert_slot (slot (hash_of e n) (g.off / 8)) (slots b)) 0) tq)

    best_d : case_a (room_of e b n) ≡ false → case_b (room_of e b n) ≡ false → case_c (room_of e b n) ≡ false → stale_of b ≡ 0 → E + 8 ≤ size t
        → after ≡ ins (less E (shorter (named_by t))) (into (gaps xs) (best_of 3 []))
    best_d x y z st fit =
        by_free xs (take (size t - 8) t.raw) [] (drop (size t - 8) t.raw ++ index_bytes e sane b r.are_bytes r.ok) t.off (slots b) 0
        t.off (size t - 8) (t.off + size t - 8) (free_d e sane b r.are_bytes r.ok i n ask xs t p tp fit st)
        refl (simp length-take (omega arith)) (omega arith) (are_d x y z)

    -- (b)
    best_b : case_a (room_of e b n) ≡ false → case_b (room_of e b n) ≡ true → 0 < stale_of b
        → after ≡ ins (less E (pair t.off (size t + 8 * (stale_of b - 1)))) (into (gaps xs) (best_of 3 []))
    best_b x y st =
        let m : ℕ = 8 * (stale_of b - 1) in
        let l : length (t.raw ++ []) ≡ size t = ap length (append-nil t.raw) in
        by_free xs (join (t ∷ []) ++ take m (slot_bytes (slots b))) [] _ (e.header + length (join xs)) (keep is_live (slots b)) 0
        t.off (size t + m) (t.off + size t + m)
        (free_b e sane b r.are_bytes r.ok i n ask xs (t ∷ []) p (rw tp) (omega (arith, l, b_fits y, ap size tq)) st)
        (sym (t_laid e b (tiled e b r) xs t p tp).0) (rw (length-append (t.raw ++ []) (take m (slot_bytes (slots b))), slots_taken) (omega (arith, l))) (omega arith) (b_writes x y ∙ ap over tq)

    -- (c): the gap g
    module _ (us : List Rec) (g : Rec) (vs : List Rec) (f : gaps xs ≡ us ++ (g ∷ vs)) (lg : longest (gaps xs) ≡ g) (x : case_a (room_of e b n) ≡ false) (y : case_b (room_of e b n) ≡ false)
        (z : case_c (room_of e b n) ≡ true) (st : stale_of b ≡ 0) (fit : entry_size e (length n) ≤ size g) (eight : 8 ≤ size t) where
      k : FoundIn is_gap xs us g vs
      k = keep_find is_gap xs us g vs f

      all : records e b ≡ k.before ++ (g ∷ (k.behind ++ (t ∷ [])))
      all = p ∙ ap (λ (l : List Rec). l ++ (t ∷ [])) k.is ∙ append_assoc k.before (g ∷ k.behind) (t ∷ [])

      longest_other : longest (besides T.off (gaps (records e b))) ≡ g
      longest_other = ap (λ (u : Rec). longest (besides u.off (gaps (records e b)))) tq ∙ ap longest (t_others e b (tiled e b r) xs t p tp) ∙ lg

      are_c : insert_writes e b n i ≡ writes_of_c e sane b r.are_bytes r.ok i n ask k.before g k.behind t all k.passes tp fit eight st
      unfolding insert_writes writes_c room_of writes_of_c index_c
      are_c =
          rw (x, y, z)
          (ap₂ (λ (g t : Rec). entry_writes e i n g.off (g.off + size g)
          ++ (gap_writes t.off (size t - 8) ++ index_writes (length b) (insert_slot (slot (hash_of e n) (g.off / 8)) (slots b)) 0)) longest_other tq)

      abbrev ys : List Rec
      ys = behind e sane b r.are_bytes r.ok i n ask k.before g k.behind t all k.passes tp fit eight st

      abbrev left : List ℕ
      left = kept e sane b r.are_bytes r.ok i n ask k.before g k.behind t all k.passes tp fit eight st

      left_long : length left ≡ size t - 8
      left_long = kept_long e sane b r.are_bytes r.ok i n ask k.before g k.behind t all k.passes tp fit eight st

      gaps_ys : gaps ys ≡ vs ++ free t.off left
      unfolding behind
      gaps_ys = keep_append is_gap k.behind (free t.off left) ∙ ap₂ (λ (l m : List Rec). l ++ m) k.behind_is (free_gaps t.off left)

      best_c : after ≡ ins (shorter (named_by t)) (into vs (ins (less E (named_by g)) (into us (best_of 3 []))))
      unfolding records_c
      best_c =
          let u : List Pair = ins (less E (named_by g)) (into us (best_of 3 [])) in
          best_after (writes_of_c e sane b r.are_bytes r.ok i n ask k.before g k.behind t all k.passes tp fit eight st)
          (records_c e sane b r.are_bytes r.ok i n ask k.before g k.behind t all k.passes tp fit eight st)
          (index_c e sane b r.are_bytes r.ok i n ask k.before g k.behind t all k.passes tp fit eight st) 0 are_c
          (insert_c e sane b r.are_bytes r.ok i n ask k.before g k.behind t all k.passes tp fit eight st)
          ∙ into_new k.before g.raw ys g.off (place_of e sane b r.are_bytes r.ok k.before (g ∷ []) (k.behind ++ (t ∷ [])) all).1.eights
          ∙ ap₂ (λ (l m : List Rec). into l (ins (less E (named_by g)) (into m (best_of 3 [])))) gaps_ys k.before_is
          ∙ into_append vs (free t.off left) u
          ∙ into_free t.off left (into vs u) (omega (arith, left_long, (t_laid e b (tiled e b r) xs t p tp).1.eights))
          ∙ ap (λ (l : ℕ). ins (pair t.off l) (into vs u)) left_long

  -- (b), where no gap touches the slots
  module _ (tq : touching (data_end b) (records e b) ≡ rec (data_end b) []) where
    best_over : case_a (room_of e b n) ≡ false → case_b (room_of e b n) ≡ true → 0 < stale_of b
        → after ≡ ins (less E (pair (data_end b) (8 * (stale_of b - 1)))) (into (gaps (records e b)) (best_of 3 []))
    best_over x y st =
        let m : ℕ = 8 * (stale_of b - 1) in
        by_free (records e b) (take m (slot_bytes (slots b))) [] _ (e.header + length (join (records e b))) (keep is_live (slots b)) 0
        (data_end b) m (data_end b + 0 + m)
        (free_b e sane b r.are_bytes r.ok i n ask (records e b) [] (sym (append-nil (records e b))) refl (omega (arith, b_fits y, ap size tq)) st)
        (sym (end_of_data e sane b r.are_bytes r.ok)) slots_taken (omega arith) (b_writes x y ∙ ap over tq)

  -- the gaps gs other than T, then T, if there is one; p and ps are the four longest of gs
  module _ (gs ts : List Rec) (t p : Pair) (ps : List Pair) (are : gaps (records e b) ≡ gs ++ ts) (rises : Rising e.header gs)
      (last : (l : List Pair) → into ts l ≡ ins t l) (best : best_of 4 gs ≡ p ∷ ps) where
    long : size (longest gs) ≡ p.long
    long = (first_best 3 gs p.from p.long ps best).1

    front : into gs (best_of 3 []) ≡ take 3 (p ∷ ps)
    front = sym (best_into 3 e.header [] gs refl rises) ∙ sym (take_best 3 gs) ∙ ap (take 3) best

    -- the entry goes into the longest of them, g
    module _ (fit : E ≤ p.long) where
      abbrev at : (s : Split gs) × (s.here ≡ longest gs)
      at = longest_in gs (omega (arith, some_need, long))

      fits : E ≤ size at.0.here
      fits = omega (arith, ap size at.1, long)

      split : longest (at.0.before ++ (at.0.here ∷ at.0.behind)) ≡ at.0.here
      split = ap longest (sym at.0.is) ∙ sym at.1

      placed_in : (p ≡ named_by at.0.here)
          × (into at.0.behind (ins (less E (named_by at.0.here)) (into at.0.before (best_of 3 []))) ≡ ins_at (less E (named_by at.0.here)) ps)
      placed_in =
          best_placed 3 e.header E at.0.before at.0.behind at.0.here (subst (λ (l : List Rec). Rising e.header l) at.0.is rises) split fits p ps
          (ap (best_of 4) (sym at.0.is) ∙ best)

      other : into at.0.behind (ins (less E (named_by at.0.here)) (into at.0.before (best_of 3 []))) ≡ ins_at (less E p) ps
      other = placed_in.1 ∙ ap (λ (q : Pair). ins_at (less E q) ps) (sym placed_in.0)

      other_a : longest (gaps (records e b)) ≡ longest gs → 0 < stale_of b → case_a (room_of e b n) ≡ true → after ≡ into_other E t p ps
      other_a m st z =
          best_a at.0.before at.0.here (at.0.behind ++ ts)
          (are ∙ ap (λ (l : List Rec). l ++ ts) at.0.is ∙ append_assoc at.0.before (at.0.here ∷ at.0.behind) ts) (m ∙ sym at.1) st z fits
          ∙ into_append at.0.behind ts (ins (less E (named_by at.0.here)) (into at.0.before (best_of 3 [])))
          ∙ last (into at.0.behind (ins (less E (named_by at.0.here)) (into at.0.before (best_of 3 []))))
          ∙ ap (ins t) other

  -- ---- whichever case holds first

  no_c : 0 < stale_of b → case_c (room_of e b n) ≡ false
  unfolding room_of
  no_c st = rw (ne_eqb (stale_of b) 0 (λ (z : stale_of b ≡ 0). omega arith))

  no_d : 0 < stale_of b → case_d (room_of e b n) ≡ false
  unfolding room_of
  no_d st = rw (ne_eqb (stale_of b) 0 (λ (z : stale_of b ≡ 0). omega arith))

  no_b : leb 1 (stale_of b) ≡ false → case_b (room_of e b n) ≡ false
  unfolding room_of
  no_b s = rw s

  c_fits : case_c (room_of e b n) ≡ true → 8 ≤ size T
  unfolding room_of
  c_fits q =
      let s : Bool = eqb (stale_of b) 0 in
      let k : Bool = leb 8 (size T) in
      let f : Bool = some_of (λ (g : Rec). leb (entry_size e (length n)) (size g)) (besides T.off (gaps (records e b))) in
      leb-true 8 (size T) (and_right s k (and_left (s && k) f q))

  d_fits : case_d (room_of e b n) ≡ true → E + 8 ≤ size T
  unfolding room_of
  d_fits q = leb-true (E + 8) (size T) (and_right (eqb (stale_of b) 0) (leb (E + 8) (size T)) q)

  module _ (rm : has_room e b n ≡ true) where
    b_room : 0 < stale_of b → case_a (room_of e b n) ≡ false → case_b (room_of e b n) ≡ true
    unfolding has_room
    b_room st x = by_cases (case_b (room_of e b n)) (λ y. y) (λ y. absurd (false≢true (rw (x, y, no_c st, no_d st) at rm)))

    d_room : case_a (room_of e b n) ≡ false → case_b (room_of e b n) ≡ false → case_c (room_of e b n) ≡ false → E + 8 ≤ size T
    unfolding has_room
    d_room x y z = d_fits (rw (x, y, z) at rm)

    t_room : case_a (room_of e b n) ≡ false → case_b (room_of e b n) ≡ false → 8 ≤ size T
    t_room x y = by_cases (case_c (room_of e b n)) c_fits (λ z. omega (arith, d_room x y z))

    a_is : case_a (room_of e b n) ≡ (leb 1 (stale_of b) && leb E (size (longest (gaps (records e b)))))
    unfolding room_of
    a_is = ap (λ (t : Bool). leb 1 (stale_of b) && t) (longest_holds E (gaps (records e b)) some_need)

    in_a : 0 < stale_of b → E ≤ size (longest (gaps (records e b))) → case_a (room_of e b n) ≡ true
    in_a st h = a_is ∙ rw (le-leb 1 (stale_of b) st, le-leb E (size (longest (gaps (records e b)))) h)

    not_a : size (longest (gaps (records e b))) < E → case_a (room_of e b n) ≡ false
    not_a h = a_is ∙ rw (lt-leb E (size (longest (gaps (records e b)))) h) (and_false (leb 1 (stale_of b)))

    c_is : stale_of b ≡ 0 → 8 ≤ size T → case_c (room_of e b n) ≡ leb E (size (longest (besides T.off (gaps (records e b)))))
    unfolding room_of
    c_is st eight = rw (eq-eqb (stale_of b) 0 st, le-leb 8 (size T) eight) (longest_holds E (besides T.off (gaps (records e b))) some_need)

    -- T is there
    module _ (xs : List Rec) (t : Rec) (q : records e b ≡ xs ++ (t ∷ [])) (tp : is_gap t ≡ true) (tq : touching (data_end b) (records e b) ≡ t)
        (p : Pair) (ps : List Pair) (best : best_of 4 (gaps xs) ≡ p ∷ ps) where
      rises : Rising e.header (gaps xs)
      rises = t_rises e b (tiled e b r) xs t q tp

      are : gaps (records e b) ≡ gaps xs ++ (t ∷ [])
      are = t_gaps e b (tiled e b r) xs t q tp

      most : size (longest (gaps xs)) ≡ p.long
      most = long (gaps xs) (t ∷ []) (named_by t) p ps are rises (λ l. refl) best

      others : into (gaps xs) (best_of 3 []) ≡ take 3 (p ∷ ps)
      others = front (gaps xs) (t ∷ []) (named_by t) p ps are rises (λ l. refl) best

      -- T is the longest; another is
      is_t : p.long < size t → longest (gaps (records e b)) ≡ t
      is_t h = t_longest e b (tiled e b r) xs t q tp ∙ rw (lt-ltb (size (longest (gaps xs))) (size t) (omega (arith, most)))

      is_other : size t ≤ p.long → longest (gaps (records e b)) ≡ longest (gaps xs)
      is_other h = t_longest e b (tiled e b r) xs t q tp ∙ rw (le-ltb (size (longest (gaps xs))) (size t) (omega (arith, most)))

      with_stale : 0 < stale_of b
          → after ≡ cond (leb (size t) p.long && leb E p.long) (into_other E (named_by t) p ps)
          (cond (leb E (size t)) (into_last E (named_by t) (p ∷ ps)) (into_last E (longer (8 * (stale_of b - 1)) (named_by t)) (p ∷ ps)))
      with_stale st =
          by_cases (leb (size t) p.long && leb E p.long)
          (λ z.
          let y : size t ≤ p.long = leb-true (size t) p.long (and_left (leb (size t) p.long) (leb E p.long) z) in
          let x : E ≤ p.long = leb-true E p.long (and_right (leb (size t) p.long) (leb E p.long) z) in
          let m : longest (gaps (records e b)) ≡ longest (gaps xs) = is_other y in
          rw z (other_a (gaps xs) (t ∷ []) (named_by t) p ps are rises (λ l. refl) best x m st (in_a st (omega (arith, ap size m, most)))))
          (λ z. rw z (by_cases (leb E (size t))
          (λ y.
          let w : E ≤ size t = leb-true E (size t) y in
          let m : longest (gaps (records e b)) ≡ t =
          is_t (by_cases (leb (size t) p.long)
          (λ v. omega (arith, leb-false E p.long (rw v at z)))
          (λ v. omega (arith, leb-false (size t) p.long v))) in
          rw y (best_a (gaps xs) t [] are m st (in_a st (omega (arith, ap size m))) w ∙ ap (ins (less E (named_by t))) others))
          (λ y.
          let w : size t < E = leb-false E (size t) y in
          let x : case_a (room_of e b n) ≡ false =
          not_a (by_cases (leb (size t) p.long)
          (λ v. omega (arith, ap size (is_other (leb-true (size t) p.long v)), most, leb-false E p.long (rw v at z)))
          (λ v. omega (arith, ap size (is_t (leb-false (size t) p.long v))))) in
          rw y (best_b xs t q tp tq x (b_room st x) st ∙ ap (ins (less E (longer (8 * (stale_of b - 1)) (named_by t)))) others))))

      without : stale_of b ≡ 0 → leb 1 (stale_of b) ≡ false
          → after ≡ cond (leb E p.long) (into_other E (shorter (named_by t)) p ps) (into_last E (shorter (named_by t)) (p ∷ ps))
      without st s =
          let x : case_a (room_of e b n) ≡ false = a_is ∙ rw s in
          let y : case_b (room_of e b n) ≡ false = no_b s in
          let c : case_c (room_of e b n) ≡ leb E p.long =
          c_is st (t_room x y) ∙ ap (λ (u : Rec). leb E (size (longest (besides u.off (gaps (records e b)))))) tq
          ∙ ap (λ (l : List Rec). leb E (size (longest l))) (t_others e b (tiled e b r) xs t q tp) ∙ ap (leb E) most in
          by_cases (leb E p.long)
          (λ h.
          let fit : E ≤ p.long = leb-true E p.long h in
          let w : (s : Split (gaps xs)) × (s.here ≡ longest (gaps xs)) =
          at (gaps xs) (t ∷ []) (named_by t) p ps are rises (λ l. refl) best fit in
          rw h (best_c xs t q tp tq w.0.before w.0.here w.0.behind w.0.is (sym w.1) x y (c ∙ h) st
          (fits (gaps xs) (t ∷ []) (named_by t) p ps are rises (λ l. refl) best fit) (subst (λ (u : Rec). 8 ≤ size u) tq (t_room x y))
          ∙ ap (ins (shorter (named_by t))) (other (gaps xs) (t ∷ []) (named_by t) p ps are rises (λ l. refl) best fit)))
          (λ h.
          let z : case_c (room_of e b n) ≡ false = c ∙ h in
          rw h (best_d xs t q tp tq x y z st (subst (λ (u : Rec). E + 8 ≤ size u) tq (d_room x y z)) ∙ ap (ins (less E (shorter (named_by t)))) others))

    -- T is not there
    module _ (tq : touching (data_end b) (records e b) ≡ rec (data_end b) []) (p : Pair) (ps : List Pair) (best : best_of 4 (gaps (records e b)) ≡ p ∷ ps) where
      all_rise : Rising e.header (gaps (records e b))
      all_rise = rising_laid e e.header (records e b) (laid_all e b (tiled e b r))

      no_last : (l : List Pair) → l ≡ ins (pair (data_end b) 0) l
      no_last l = sym (ins_empty (pair (data_end b) 0) l refl)

      over_slots : 0 < stale_of b
          → after ≡ cond (leb 0 p.long && leb E p.long) (into_other E (pair (data_end b) 0) p ps)
          (cond (leb E 0) (into_last E (pair (data_end b) 0) (p ∷ ps)) (into_last E (longer (8 * (stale_of b - 1)) (pair (data_end b) 0)) (p ∷ ps)))
      over_slots st =
          let are : gaps (records e b) ≡ gaps (records e b) ++ [] = sym (append-nil (gaps (records e b))) in
          let m : size (longest (gaps (records e b))) ≡ p.long = long (gaps (records e b)) [] (pair (data_end b) 0) p ps are all_rise no_last best in
          by_cases (leb E p.long)
          (λ z.
          let x : E ≤ p.long = leb-true E p.long z in
          rw (le-leb 0 p.long (omega arith), z)
          (other_a (gaps (records e b)) [] (pair (data_end b) 0) p ps are all_rise no_last best x refl st (in_a st (omega (arith, m)))))
          (λ z.
          let x : case_a (room_of e b n) ≡ false = not_a (omega (arith, m, leb-false E p.long z)) in
          rw (le-leb 0 p.long (omega arith), z, lt-leb E 0 some_need)
          (best_over tq x (b_room st x) st
          ∙ ap (λ (k : ℕ). ins (less E (pair (data_end b) k)) (into (gaps (records e b)) (best_of 3 []))) (zero_more (8 * (stale_of b - 1)))
          ∙ ap (ins (less E (longer (8 * (stale_of b - 1)) (pair (data_end b) 0)))) (front (gaps (records e b)) [] (pair (data_end b) 0) p ps are all_rise no_last best)))

    pub from_others : (p : Pair) (ps : List Pair) → best_of 4 (besides T.off (gaps (records e b))) ≡ p ∷ ps
        → after ≡ used_table E (stale_of b) (named_by T) (p ∷ ps)
    unfolding used_table
    from_others p ps best = go (touch (data_end b) (records e b))
      where
        go : Touch (data_end b) (records e b) → after ≡ used_table E (stale_of b) (named_by T) (p ∷ ps)
        go (real xs t q tp tq) =
            let f : best_of 4 (gaps xs) ≡ p ∷ ps = ap (best_of 4) (sym (t_others e b (tiled e b r) xs t q tp)) ∙ ap (λ (u : Rec). best_of 4 (besides u.off (gaps (records e b)))) (sym tq) ∙ best in
            by_cases (leb 1 (stale_of b))
            (λ s. rw s (with_stale xs t q tp tq p ps f (leb-true 1 (stale_of b) s)) ∙ ap (λ (u : Rec). used_table E (stale_of b) (named_by u) (p ∷ ps)) (sym tq))
            (λ s. rw s (without xs t q tp tq p ps f (omega (arith, leb-false 1 (stale_of b) s)) s) ∙ ap (λ (u : Rec). used_table E (stale_of b) (named_by u) (p ∷ ps)) (sym tq))
        go (unreal tq) =
            let f : best_of 4 (gaps (records e b)) ≡ p ∷ ps =
            ap (best_of 4) (sym (no_others e b (tiled e b r))) ∙ ap (λ (u : Rec). best_of 4 (besides u.off (gaps (records e b)))) (sym tq) ∙ best in
            by_cases (leb 1 (stale_of b))
            (λ s. rw s (over_slots tq p ps f (leb-true 1 (stale_of b) s)) ∙ ap (λ (u : Rec). used_table E (stale_of b) (named_by u) (p ∷ ps)) (sym tq))
            (λ s. absurd (omega (arith, ap size tq, t_room (a_is ∙ rw s) (no_b s))))
