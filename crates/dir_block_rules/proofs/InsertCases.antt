-- An insert that finds room, by whichever case.
-- Assumes nothing.
use Prim.Native.Nat.{ℕ, ◌+◌, ◌-◌, ◌*◌, ◌/◌, ◌≤◌, ◌<◌}
use native.Mathlib.Omega.{arith}
use mathlib.Core.Bool.{Bool, true, not, ◌&&◌}
use mathlib.Core.Path.{◌≡◌, refl, sym, ◌∙◌, ap, subst}
use mathlib.Core.List.{List, [], ◌∷◌, ◌++◌, append_assoc, append-nil}
use lib.Dec.{eqb, leb}
use lib.ListN.{length, take, length-append, length-take}
use borrow.Author.Tests.{leb-true, eqb-true, eqb-false, not-true}
use Rattle.be.specs.Lists.{some_of, keep, without_first}
use Rattle.be.specs.Bytes.{bytes, Write}
use Rattle.edition.specs.declared.Edition.{Edition}
use Rattle.edition.specs.Edition.{entry_size, Sane}
use Rattle.name.specs.Name.{hash_of}
use Rattle.dir.specs.declared.Target.{Target}
use Rattle.dir.specs.Target.{kept_of}
use Rattle.dir_block_rules.specs.Record.{target_of, gap_writes, Rec, rec, size, is_gap, entries, gaps, name, besides}
use Rattle.dir_block_rules.specs.Block.{Slot, slot, slot_bytes, records, slots, stale_of, data_end, is_stale, is_live}
use Rattle.dir_block_rules.specs.Verdict.{Accepted, best_pairs}
use Rattle.dir_block_rules.specs.Room.{some_stale, Room, room_of, last_of, touching, case_a, case_b, case_c, case_d, has_room}
use Rattle.dir_block_rules.specs.Change.{longest, changed, entry_writes, index_writes, insert_slot, writes_a, writes_b, writes_c, writes_d, insert_writes, best_table}
use Rattle.be.proofs.Bools.{and_left, and_right, by_cases}
use Rattle.edition.proofs.Sizes.{entry_size_least}
use Rattle.dir_block_rules.proofs.CutJoin.{join, Laid, laid_back}
use Rattle.dir_block_rules.proofs.BlockParts.{length_slot_bytes}
use Rattle.be.proofs.Splits.{Split}
use Rattle.dir_block_rules.proofs.BestTable.{longest_holds}
use Rattle.dir_block_rules.proofs.GoodParts.{tally_length}
use Rattle.dir_block_rules.proofs.EntryMore.{entry_name, entry_target}
use Rattle.dir_block_rules.proofs.InsertGood.{new_records, new_entry, new_entries}
use Rattle.dir_block_rules.proofs.AcceptedParts.{FoundIn, keep_find, fit_of, good_of, end_of_data}
use Rattle.dir_block_rules.proofs.ChangeAccepted.{After, longest_in}
use Rattle.dir_block_rules.proofs.InsertFree.{Free, free_writes, insert_free, free_a, free_b, free_d, Asked, asked_small, asked_type}
use Rattle.dir_block_rules.proofs.RemoveAccepted.{snoc}
use Rattle.dir_block_rules.proofs.InsertCaseC.{insert_c, records_c, writes_of_c, index_c, behind, entries_old}

-- what an insert leaves: one entry more, at its place among the others
pub record Inserted (e : Edition) (b n : List ℕ) (i : Target) (c : List ℕ) : Type 0 where
  pub before : List Rec
  pub behind : List Rec
  pub new : Rec
  pub accepted : Accepted e c
  pub long : length c ≡ length b
  pub best_is : best_pairs e c ≡ best_table (gaps (records e c))
  pub old_entries : entries (records e b) ≡ before ++ behind
  pub new_entries_are : entries (records e c) ≡ before ++ new ∷ behind
  pub named : name new ≡ n
  pub aimed : target_of e new ≡ kept_of e i

-- T, real or not
pub data Touch (o : ℕ) (rs : List Rec) : Type 0 where
  real : (xs : List Rec) (t : Rec) → rs ≡ xs ++ (t ∷ []) → is_gap t ≡ true → touching o rs ≡ t → Touch o rs
  unreal : touching o rs ≡ rec o [] → Touch o rs

pub last_is : (o : ℕ) (xs : List Rec) (t : Rec) → last_of o (xs ++ (t ∷ [])) ≡ t
unfolding last_of
last_is o [] t = refl
last_is o (x ∷ []) t = refl
last_is o (x ∷ y ∷ xs) t = last_is o (y ∷ xs) t

pub touch : (o : ℕ) (rs : List Rec) → Touch o rs
unfolding touching last_of
touch o [] = unreal (unfold_none o)
  where
    unfold_none : (o : ℕ) → touching o [] ≡ rec o []
    unfold_none o = by_cases (is_gap (rec o [])) (λ q. rw q refl) (λ q. rw q refl)
touch o (x ∷ xs) =
    let r : (t : Split (x ∷ xs)) × (t.behind ≡ []) × ((g : Bool) → _) = snoc x xs in
    let is : x ∷ xs ≡ r.0.before ++ (r.0.here ∷ []) = r.0.is ∙ ap (λ (m : List Rec). r.0.before ++ r.0.here ∷ m) r.1 in
    let l : last_of o (x ∷ xs) ≡ r.0.here = ap (last_of o) is ∙ last_is o r.0.before r.0.here in
    by_cases (is_gap r.0.here)
    (λ q. real r.0.before r.0.here is q (rw (l, q) refl))
    (λ q. unreal (rw (l, q) refl))

-- the last record stands behind any other
last_behind : (o : ℕ) (rs ws : List Rec) (t : Rec) → rs ≡ ws ++ (t ∷ []) → (zs : List Rec) (g : Rec) (vs : List Rec) → rs ≡ zs ++ g ∷ vs → (g ≡ t → ⊥)
    → (ys : List Rec) × (vs ≡ ys ++ (t ∷ []))
last_behind o rs ws t q zs g [] r ne = absurd (ne (sym (last_is o zs g) ∙ ap (last_of o) (sym r ∙ q) ∙ last_is o ws t))
last_behind o rs ws t q zs g (x ∷ vs) r ne =
    let s : (s : Split (x ∷ vs)) × (s.behind ≡ []) × ((g : Bool) → _) = snoc x vs in
    let is : x ∷ vs ≡ s.0.before ++ (s.0.here ∷ []) = s.0.is ∙ ap (λ (m : List Rec). s.0.before ++ s.0.here ∷ m) s.1 in
    let all : rs ≡ (zs ++ (g ∷ s.0.before)) ++ (s.0.here ∷ []) = r ∙ ap (λ (m : List Rec). zs ++ g ∷ m) is ∙ sym (append_assoc zs (g ∷ s.0.before) (s.0.here ∷ [])) in
    let same : s.0.here ≡ t = sym (last_is o (zs ++ (g ∷ s.0.before)) s.0.here) ∙ ap (last_of o) (sym all ∙ q) ∙ last_is o ws t in
    (s.0.before, is ∙ ap (λ (y : Rec). s.0.before ++ (y ∷ [])) same)

-- s ≥ 1, as a number
stale_least : (m : Room) → some_stale m ≡ true → 1 ≤ m.stale
stale_least m q = omega (arith, leb-true)

module _ (e : Edition) (sane : Sane e) (b : List ℕ) (h : bytes b ≡ true) (a : Accepted e b) (i : Target) (n : List ℕ) (ask : Asked e b n i) where
  from_free : (xs : List Rec) (c : List ℕ) (ys : List Rec) (r : List ℕ) (o : ℕ) (ts : List Slot) (m : ℕ) (f : Free e sane b h a i n ask xs c ys r o ts m)
      → Inserted e b n i (changed e b (free_writes e sane b h a i n ask xs c ys r o ts m f))
  unfolding new_entry
  from_free xs c ys r o ts m f =
      let w : After e b (changed e b (free_writes e sane b h a i n ask xs c ys r o ts m f)) (new_records e sane i n xs c ys o) _ m =
      insert_free e sane b h a i n ask xs c ys r o ts m f in
      record {
        before = entries xs;
        behind = entries ys;
        new = new_entry e sane i n xs c ys o;
        accepted = w.accepted;
        long = w.long;
        best_is = w.best_is;
        old_entries = f.entries_old;
        new_entries_are = ap entries w.records_are ∙ new_entries e sane i n xs c ys o (asked_small e b n i ask);
        named = entry_name e o i n;
        aimed = entry_target e sane o i n (omega (arith, asked_small e b n i ask)) (asked_type e b n i ask);
      }

  need : ℕ
  need = entry_size e (length n)

  abbrev holds : Rec → Bool
  holds g = leb (entry_size e (length n)) (size g)

  longest_long : (gs : List Rec) → some_of holds gs ≡ true → entry_size e (length n) ≤ size (longest gs)
  longest_long gs q =
      leb-true (entry_size e (length n)) (size (longest gs)) (sym (longest_holds (entry_size e (length n)) gs (omega (arith, entry_size_least e (length n)))) ∙ q)

  by_a : case_a (room_of e b n) ≡ true → Inserted e b n i (changed e b (writes_a e b n i (room_of e b n)))
  unfolding room_of writes_a
  by_a q =
      let G : List Rec = gaps (records e b) in
      let s : 1 ≤ stale_of b = stale_least (room_of e b n) (and_left (some_stale (room_of e b n)) (some_of holds G) q) in
      let f : entry_size e (length n) ≤ size (longest G) = longest_long G (and_right (some_stale (room_of e b n)) (some_of holds G) q) in
      let t : (t : Split G) × (t.here ≡ longest G) = longest_in G (omega (arith, entry_size_least e (length n))) in
      let g : Rec = t.0.here in
      let k : FoundIn is_gap (records e b) t.0.before g t.0.behind = keep_find is_gap (records e b) t.0.before g t.0.behind t.0.is in
      subst (λ (g : Rec). Inserted e b n i (changed e b (entry_writes e i n g.off (g.off + size g)
      ++ index_writes (length b) (insert_slot (slot (hash_of e n) (g.off / 8)) (without_first is_stale (slots b))) (stale_of b - 1)))) t.1
      (from_free k.before g.raw k.behind _ g.off (without_first is_stale (slots b)) (stale_of b - 1)
      (free_a e sane b h a i n ask k.before g k.behind k.is k.passes (subst (λ (z : Rec). entry_size e (length n) ≤ size z) (sym t.1) f) s))

  -- the writes of (b), (c) and (d), over T and the gap
  abbrev wd : Rec → ℕ → List Write
  wd t u = entry_writes e i n t.off u ++ index_writes (length b) (insert_slot (slot (hash_of e n) (t.off / 8)) (slots b)) 0

  abbrev wb : ℕ → ℕ → List Write
  wb o u = entry_writes e i n o u ++ index_writes (length b) (insert_slot (slot (hash_of e n) (o / 8)) (keep is_live (slots b))) 0

  abbrev T : Rec
  T = touching (data_end b) (records e b)

  go_d : Touch (data_end b) (records e b) → stale_of b ≡ 0 → entry_size e (length n) + 8 ≤ size T → Inserted e b n i (changed e b (wd T (T.off + size T - 8)))
  go_d (unreal tq) z f = absurd (omega (arith, ap size tq, f))
  go_d (real xs t q gp tq) z f =
      let f' : entry_size e (length n) + 8 ≤ size t = subst (λ (x : Rec). entry_size e (length n) + 8 ≤ size x) tq f in
      let l : t.off + length (take (size t - 8) t.raw) ≡ t.off + size t - 8 = rw length-take (omega arith) in
      subst (λ (x : Rec). Inserted e b n i (changed e b (wd x (x.off + size x - 8)))) (sym tq)
      (subst (λ (u : ℕ). Inserted e b n i (changed e b (wd t u))) l
      (from_free xs (take (size t - 8) t.raw) [] _ t.off (slots b) 0 (free_d e sane b h a i n ask xs t q gp f' z)))

  by_d : case_d (room_of e b n) ≡ true → Inserted e b n i (changed e b (writes_d e b n i (room_of e b n)))
  unfolding room_of writes_d
  by_d q =
      go_d (touch (data_end b) (records e b))
      (eqb-true (stale_of b) 0 (and_left (eqb (stale_of b) 0) (leb (entry_size e (length n) + 8) (size T)) q))
      (leb-true (entry_size e (length n) + 8) (size T) (and_right (eqb (stale_of b) 0) (leb (entry_size e (length n) + 8) (size T)) q))

  slots_room : 8 * (stale_of b - 1) ≤ length (slot_bytes (slots b))
  slots_room = omega (arith, length_slot_bytes (slots b), (good_of e sane b h a).index.stales, tally_length is_stale (slots b))

  go_b : Touch (data_end b) (records e b) → 0 < stale_of b → entry_size e (length n) ≤ size T + 8 * (stale_of b - 1)
      → Inserted e b n i (changed e b (wb T.off (T.off + size T + 8 * (stale_of b - 1))))
  go_b (unreal tq) z f =
      let k : ℕ = 8 * (stale_of b - 1) in
      let f' : entry_size e (length n) ≤ 0 + k = omega (arith, ap size tq, f) in
      let o : e.header + length (join (records e b)) ≡ T.off = sym (end_of_data e sane b h a) ∙ ap (λ (x : Rec). x.off) (sym tq) in
      let u : e.header + length (join (records e b)) + length (take k (slot_bytes (slots b))) ≡ T.off + size T + k = rw length-take (omega (arith, o, ap size tq, slots_room)) in
      subst (λ (x : ℕ). Inserted e b n i (changed e b (wb x (T.off + size T + k)))) o
      (subst (λ (x : ℕ). Inserted e b n i (changed e b (wb (e.header + length (join (records e b))) x))) u
      (from_free (records e b) (take k (slot_bytes (slots b))) [] _ (e.header + length (join (records e b))) (keep is_live (slots b)) 0
      (free_b e sane b h a i n ask (records e b) [] (sym (append-nil (records e b))) refl f' z)))
  go_b (real xs t q gp tq) z f =
      let k : ℕ = 8 * (stale_of b - 1) in
      let w : Laid e (e.header + length (join xs)) (t ∷ []) = laid_back e e.header xs (t ∷ []) (subst (λ (l : List Rec). Laid e e.header l) q (fit_of e sane b h a).laid) in
      let o : e.header + length (join xs) ≡ T.off = sym w.0 ∙ ap (λ (x : Rec). x.off) (sym tq) in
      let g : length (t.raw ++ []) ≡ size T = ap length (append-nil t.raw) ∙ ap size (sym tq) in
      let f' : entry_size e (length n) ≤ length (join (t ∷ [])) + k = omega (arith, g, f) in
      let c : List ℕ = join (t ∷ []) ++ take k (slot_bytes (slots b)) in
      let u : e.header + length (join xs) + length c ≡ T.off + size T + k =
      rw (length-append (join (t ∷ [])) (take k (slot_bytes (slots b))), length-take k (slot_bytes (slots b))) (omega (arith, o, g, slots_room)) in
      subst (λ (x : ℕ). Inserted e b n i (changed e b (wb x (T.off + size T + k)))) o
      (subst (λ (x : ℕ). Inserted e b n i (changed e b (wb (e.header + length (join xs)) x))) u
      (from_free xs c [] _ (e.header + length (join xs)) (keep is_live (slots b)) 0
      (free_b e sane b h a i n ask xs (t ∷ []) q (rw gp) f' z)))

  by_b : case_b (room_of e b n) ≡ true → Inserted e b n i (changed e b (writes_b e b n i (room_of e b n)))
  unfolding room_of writes_b
  by_b q =
      let s : Bool = some_stale (room_of e b n) in
      let f : Bool = leb (entry_size e (length n)) (size T + 8 * (stale_of b - 1)) in
      go_b (touch (data_end b) (records e b)) (stale_least (room_of e b n) (and_left s f q))
      (leb-true (entry_size e (length n)) (size T + 8 * (stale_of b - 1)) (and_right s f q))

  abbrev wc : Rec → Rec → List Write
  wc g t = entry_writes e i n g.off (g.off + size g) ++ (gap_writes t.off (size t - 8) ++ index_writes (length b) (insert_slot (slot (hash_of e n) (g.off / 8)) (slots b)) 0)

  -- the gap is not T, so T stands behind it
  from_c : (xs : List Rec) (g : Rec) (ys : List Rec) (t : Rec) → records e b ≡ xs ++ (g ∷ (ys ++ (t ∷ []))) → is_gap g ≡ true → is_gap t ≡ true
      → entry_size e (length n) ≤ size g → 8 ≤ size t → stale_of b ≡ 0 → Inserted e b n i (changed e b (wc g t))
  unfolding new_entry records_c writes_of_c index_c behind
  from_c xs g ys t q gp tp f k z =
      let w : After e b (changed e b (wc g t)) _ _ 0 = insert_c e sane b h a i n ask xs g ys t q gp tp f k z in
      record {
        before = entries xs;
        behind = entries (behind e sane b h a i n ask xs g ys t q gp tp f k z);
        new = new_entry e sane i n xs g.raw ys g.off;
        accepted = w.accepted;
        long = w.long;
        best_is = w.best_is;
        old_entries = entries_old e sane b h a i n ask xs g ys t q gp tp f k z;
        new_entries_are = ap entries w.records_are ∙ new_entries e sane i n xs g.raw (behind e sane b h a i n ask xs g ys t q gp tp f k z) g.off (asked_small e b n i ask);
        named = entry_name e g.off i n;
        aimed = entry_target e sane g.off i n (omega (arith, asked_small e b n i ask)) (asked_type e b n i ask);
      }

  go_c : Touch (data_end b) (records e b) → stale_of b ≡ 0 → 8 ≤ size T → entry_size e (length n) ≤ size (longest (besides T.off (gaps (records e b))))
      → Inserted e b n i (changed e b (wc (longest (besides T.off (gaps (records e b)))) T))
  go_c (unreal tq) z k f = absurd (omega (arith, ap size tq, k))
  go_c (real ws t q tp tq) z k f =
      let B : List Rec = besides T.off (gaps (records e b)) in
      let s : (s : Split B) × (s.here ≡ longest B) = longest_in B (omega (arith, f, entry_size_least e (length n))) in
      let g : Rec = s.0.here in
      let k1 : FoundIn (λ r. not (eqb r.off T.off)) (gaps (records e b)) s.0.before g s.0.behind =
      keep_find (λ r. not (eqb r.off T.off)) (gaps (records e b)) s.0.before g s.0.behind s.0.is in
      let k2 : FoundIn is_gap (records e b) k1.before g k1.behind = keep_find is_gap (records e b) k1.before g k1.behind k1.is in
      let no : g ≡ t → ⊥ =
      λ y. eqb-false g.off T.off (not-true (eqb g.off T.off) k1.passes) (ap (λ (x : Rec). x.off) (y ∙ sym tq)) in
      let p : (ys : List Rec) × (k2.behind ≡ ys ++ (t ∷ [])) = last_behind (data_end b) (records e b) ws t q k2.before g k2.behind k2.is no in
      let is : records e b ≡ k2.before ++ (g ∷ (p.0 ++ (t ∷ []))) = k2.is ∙ ap (λ (l : List Rec). k2.before ++ g ∷ l) p.1 in
      subst (λ (x : Rec). Inserted e b n i (changed e b (wc x T))) s.1
      (subst (λ (x : Rec). Inserted e b n i (changed e b (wc g x))) (sym tq)
      (from_c k2.before g p.0 t is k2.passes tp (subst (λ (x : Rec). entry_size e (length n) ≤ size x) (sym s.1) f) (subst (λ (x : Rec). 8 ≤ size x) tq k) z))

  by_c : case_c (room_of e b n) ≡ true → Inserted e b n i (changed e b (writes_c e b n i (room_of e b n)))
  unfolding room_of writes_c
  by_c q =
      let s : Bool = eqb (stale_of b) 0 in
      let k : Bool = leb 8 (size T) in
      let f : Bool = some_of holds (besides T.off (gaps (records e b))) in
      go_c (touch (data_end b) (records e b)) (eqb-true (stale_of b) 0 (and_left s k (and_left (s && k) f q))) (leb-true 8 (size T) (and_right s k (and_left (s && k) f q)))
      (longest_long (besides T.off (gaps (records e b))) (and_right (s && k) f q))

  -- whichever case holds first
  pub insert_any : has_room e b n ≡ true → Inserted e b n i (changed e b (insert_writes e b n i))
  unfolding has_room insert_writes
  insert_any q =
      let m : Room = room_of e b n in
      by_cases (case_a m) (λ y. rw y (by_a y))
      (λ y. by_cases (case_b m) (λ x. rw (y, x) (by_b x))
      (λ x. by_cases (case_c m) (λ w. rw (y, x, w) (by_c w))
      (λ w. rw (y, x, w) (by_d (rw (y, x, w) at q)))))
