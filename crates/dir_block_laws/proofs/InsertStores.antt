-- An insert: writes that may change places, and the room rule's case from the longest gap and T.
-- Assumes nothing.
use Prim.Native.Nat.{ℕ, zero, suc, ◌+◌, ◌-◌, ◌*◌, ◌/◌, ◌%◌, ◌≤◌, ◌<◌}
use native.Mathlib.Omega.{arith}
use mathlib.Core.Bool.{Bool, true, false, cond, ◌&&◌, ◌||◌}
use mathlib.Core.Path.{◌≡◌, refl, sym, ◌∙◌, ap, ap₂, subst}
use mathlib.Core.List.{List, [], ◌∷◌, ◌++◌, append_assoc}
use lib.Dec.{eqb, leb}
use lib.ListN.{length}
use borrow.Author.Tests.{eqb-false, eq-eqb, ne_eqb, le-leb, lt-leb, not-true}
use Rattle.be.specs.Lists.{some_of, keep, without_first}
use Rattle.be.specs.Bytes.{bytes, put, to_be, Write, written}
use Rattle.edition.specs.declared.Edition.{Edition}
use Rattle.edition.specs.Edition.{entry_size, Sane}
use Rattle.dir_block_rules.specs.Record.{Rec, size, gaps, besides, is_gap, gap_writes}
use Rattle.dir_block_rules.specs.Block.{Slot, slot, slots, records, data_end, stale_of, is_stale, is_live, slot_bytes, count_of}
use Rattle.name.specs.Name.{hash_of, legal_name, fixed_name}
use Rattle.dir.specs.Target.{legal_in}
use Rattle.dir_block_rules.specs.Verdict.{own_of, Pair, pair}
use Rattle.dir_block_rules.specs.Room.{room_of, touching, other_gaps, has_room, case_a, case_b, case_c, case_d, last_of}
use Rattle.dir_block_rules.specs.Change.{longest, best_of, index_writes, insert_slot, entry_writes, insert_writes, writes_a, writes_b, writes_c, writes_d}
use Rattle.be.proofs.Bools.{by_cases}
use Rattle.be.proofs.Numbers.{length_to_be}
use Rattle.dir.specs.declared.Target.{Target}
use Rattle.dir_block_rules.specs.Lookup.{sought}
use Rattle.be.proofs.Splits.{Split}
use Rattle.dir_block_rules.proofs.AcceptedParts.{keep_find, FoundIn}
use Rattle.edition.proofs.Sizes.{entry_size_least}
use Rattle.dir_block_rules.proofs.BestTable.{longest_holds}
use Rattle.dir_block_rules.proofs.ChangeAccepted.{longest_in, length_insert, length_without}
use Rattle.edition.proofs.Sizes.{entry_size_eights}
use Rattle.dir_block_laws.proofs.SlotSearch.{tiled, length_slots}
use Rattle.dir_block_laws.proofs.IndexStores.{stale_some}
use Rattle.dir_block_rules.proofs.LookupFinds.{hit_of}
use Rattle.dir_block_rules.proofs.InsertCases.{insert_any}
use Rattle.dir_block_rules.proofs.EachCall.{name_lt}
use Rattle.be.proofs.BytesStay.{bytes_written}
use Rattle.dir_block_rules.proofs.StaysBytes.{all_insert}
use Rattle.dir_block_laws.proofs.RecordSteps.{Here, here, laid_all, end_fits}
use Rattle.dir_block_laws.proofs.BestGrows.{elsewhere}
use Rattle.dir_block_laws.proofs.StoresTiled.{tiled_changed}
use Rattle.dir_block_rules.proofs.CutJoin.{join, Laid, laid_back}
use Rattle.dir_block_rules.proofs.WritesLeave.{written_append, length_entry_bytes}
use Rattle.dir_block_laws.specs.Tiled.{Tiled, Ready}
use Rattle.dir_block_laws.specs.Pass.{Scanned, Inside}
use Rattle.be.proofs.Writes.{put_comm}

-- ---- writes that end before a place may be made after a write there

abbrev pub Below : ℕ → List Write → Type 0
Below p [] = Unit {0}
Below p (w ∷ ws) = (w.place + length w.what ≤ p) × Below p ws

pub written_comm : (b : List ℕ) (p : ℕ) (xs : List ℕ) (ws : List Write) → Below p ws → written (put b p xs) ws ≡ put (written b ws) p xs
unfolding written
written_comm b p xs [] h = refl
written_comm b p xs (w ∷ ws) h =
    ap (λ (l : List ℕ). written l ws) (sym (put_comm b w.place w.what p xs h.0)) ∙ written_comm (put b w.place w.what) p xs ws h.1

below_append : (p : ℕ) (ws vs : List Write) → Below p ws → Below p vs → Below p (ws ++ vs)
below_append p [] vs h k = k
below_append p (w ∷ ws) vs h k = (h.0, below_append p ws vs h.1 k)

pub below_gap : (p o n : ℕ) → n % 8 ≡ 0 → o + n ≤ p → Below p (gap_writes o n)
unfolding gap_writes
below_gap p o zero m h = tt
below_gap p o (suc n) m h =
    (omega (arith, length_to_be 2 (suc n)), (omega (arith, length_to_be 2 o), tt))

pub below_entry : (e : Edition) (i : Target) (n : List ℕ) (o u p : ℕ) → o + entry_size e (length n) ≤ u → u ≤ p → (u - (o + entry_size e (length n))) % 8 ≡ 0 → Below p (entry_writes e i n o u)
below_entry e i n o u p h k m =
    (omega (arith, length_entry_bytes e o i n), below_gap p (o + entry_size e (length n)) (u - (o + entry_size e (length n))) m (omega arith))

-- the index written first, then the rest
pub index_first : (b c d : List ℕ) (L : ℕ) (ss : List Slot) (st : ℕ) (ws : List Write) → Below (L - 8 - 8 * length ss) ws
    → c ≡ written b (index_writes L ss st) → d ≡ written c ws → d ≡ written b (ws ++ index_writes L ss st)
unfolding written
index_first b c d L ss st ws h p q =
    q ∙ ap (λ (l : List ℕ). written l ws) p
    ∙ written_comm b (L - 8 - 8 * length ss) (slot_bytes ss ++ (to_be 4 (length ss) ++ to_be 4 st)) ws h
    ∙ sym (written_append b ws (index_writes L ss st))

-- ---- the room rule from the longest gap and T

pair_from : {p q : Pair} {ps qs : List Pair} → p ∷ ps ≡ q ∷ qs → p ≡ q
pair_from {p} {q} {ps} {qs} h = cc

best_head : (k : ℕ) (gs : List Rec) → (qs : List Pair) × (best_of (suc k) gs ≡ pair (longest gs).off (size (longest gs)) ∷ qs)
unfolding best_of longest
best_head k [] = (best_of k [], refl)
best_head k (g ∷ gs) = (best_of k (besides (longest (g ∷ gs)).off (g ∷ gs)), refl)

pub first_best : (k : ℕ) (gs : List Rec) (o l : ℕ) (ps : List Pair) → best_of (suc k) gs ≡ pair o l ∷ ps → ((longest gs).off ≡ o) × (size (longest gs) ≡ l)
first_best k gs o l ps q =
    let w = best_head k gs in
    let z : pair (longest gs).off (size (longest gs)) ≡ pair o l = pair_from (sym w.1 ∙ q) in
    (ap (λ (p : Pair). p.from) z, ap (λ (p : Pair). p.long) z)

-- from the longest gap o₁, l₁ and those of ps
module _ (e : Edition) (b n : List ℕ) (i : Target) (o₁ l₁ : ℕ) (ps : List Pair) (u k s E : ℕ) (sc : Scanned e b (pair o₁ l₁ ∷ ps) u k)
    (se : s ≡ stale_of b) (ee : E ≡ entry_size e (length n)) where
  gs : List Rec
  gs = gaps (records e b)

  one : ((longest (gaps (records e b))).off ≡ o₁) × (size (longest (gaps (records e b))) ≡ l₁)
  one = first_best (length ps) (gaps (records e b)) o₁ l₁ ps sc.best

  holds_longest : (hs : List Rec) → some_of (λ g. leb (entry_size e (length n)) (size g)) hs ≡ leb (entry_size e (length n)) (size (longest hs))
  holds_longest hs = longest_holds (entry_size e (length n)) hs (omega (arith, entry_size_least e (length n)))

  need_a : case_a (room_of e b n) ≡ (leb 1 s && leb E l₁)
  unfolding room_of
  need_a = ap (λ (t : Bool). leb 1 (stale_of b) && t) (holds_longest (gaps (records e b))) ∙ ap₂ (λ (x y : ℕ). leb 1 x && leb y (size (longest (gaps (records e b))))) (sym se) (sym ee) ∙ ap (λ (y : ℕ). leb 1 s && leb E y) one.1

  need_b : case_b (room_of e b n) ≡ (leb 1 s && leb E (k + 8 * (s - 1)))
  unfolding room_of
  need_b = ap₂ (λ (x y : ℕ). leb 1 x && leb y (size (touching (data_end b) (records e b)) + 8 * (x - 1))) (sym se) (sym ee) ∙ ap (λ (y : ℕ). leb 1 s && leb E (y + 8 * (s - 1))) sc.touch_size

  need_c : (l : ℕ) → size (longest (other_gaps (room_of e b n))) ≡ l → case_c (room_of e b n) ≡ (eqb s 0 && leb 8 k && leb E l)
  unfolding room_of
  need_c l q = ap (λ (t : Bool). eqb (stale_of b) 0 && leb 8 (size (touching (data_end b) (records e b))) && t) (holds_longest (other_gaps (room_of e b n))) ∙ ap₂ (λ (x y : ℕ). eqb x 0 && leb 8 (size (touching (data_end b) (records e b))) && leb y (size (longest (other_gaps (room_of e b n))))) (sym se) (sym ee) ∙ ap₂ (λ (x y : ℕ). eqb s 0 && leb 8 x && leb E y) sc.touch_size q

  need_d : case_d (room_of e b n) ≡ (eqb s 0 && leb (E + 8) k)
  unfolding room_of
  need_d = ap₂ (λ (x y : ℕ). eqb x 0 && leb (y + 8) (size (touching (data_end b) (records e b)))) (sym se) (sym ee) ∙ ap (λ (y : ℕ). eqb s 0 && leb (E + 8) y) sc.touch_size

  -- (a)
  pub is_a : 1 ≤ s → E ≤ l₁ → (has_room e b n ≡ true)
      × (insert_writes e b n i ≡ entry_writes e i n o₁ (o₁ + l₁) ++ index_writes (length b) (insert_slot (slot (hash_of e n) (o₁ / 8)) (without_first is_stale (slots b))) (s - 1))
  unfolding has_room insert_writes writes_a room_of
  is_a h k =
      let t : case_a (room_of e b n) ≡ true = need_a ∙ rw (le-leb 1 s h, le-leb E l₁ k) in (
        rw t refl,
        rw t (ap₂ (λ (x y : ℕ). entry_writes e i n x (x + y) ++ index_writes (length b) (insert_slot (slot (hash_of e n) (x / 8)) (without_first is_stale (slots b))) (stale_of b - 1)) one.0 one.1
            ∙ ap (λ (x : ℕ). entry_writes e i n o₁ (o₁ + l₁) ++ index_writes (length b) (insert_slot (slot (hash_of e n) (o₁ / 8)) (without_first is_stale (slots b))) (x - 1)) (sym se)),
      )

  -- (b)
  pub is_b : 1 ≤ s → l₁ < E → E ≤ k + 8 * (s - 1) → (has_room e b n ≡ true)
      × (insert_writes e b n i ≡ entry_writes e i n u (u + k + 8 * (s - 1)) ++ index_writes (length b) (insert_slot (slot (hash_of e n) (u / 8)) (keep is_live (slots b))) 0)
  unfolding has_room insert_writes writes_b room_of
  is_b h l m =
      let t : case_a (room_of e b n) ≡ false = need_a ∙ rw (le-leb 1 s h, lt-leb E l₁ l) in
      let v : case_b (room_of e b n) ≡ true = need_b ∙ rw (le-leb 1 s h, le-leb E (k + 8 * (s - 1)) m) in (
        rw (t, v) refl,
        rw (t, v) (ap₂ (λ (x y : ℕ). entry_writes e i n x (x + y + 8 * (stale_of b - 1)) ++ index_writes (length b) (insert_slot (slot (hash_of e n) (x / 8)) (keep is_live (slots b))) 0) sc.touch_off sc.touch_size
            ∙ ap (λ (x : ℕ). entry_writes e i n u (u + k + 8 * (x - 1)) ++ index_writes (length b) (insert_slot (slot (hash_of e n) (u / 8)) (keep is_live (slots b))) 0) (sym se)),
      )

  pub no_ab : 1 ≤ s → l₁ < E → k + 8 * (s - 1) < E → has_room e b n ≡ false
  unfolding has_room
  no_ab h l m =
      let t : case_a (room_of e b n) ≡ false = need_a ∙ rw (le-leb 1 s h, lt-leb E l₁ l) in
      let v : case_b (room_of e b n) ≡ false = need_b ∙ rw (le-leb 1 s h, lt-leb E (k + 8 * (s - 1)) m) in
      let z : eqb s 0 ≡ false = ne_eqb s 0 (λ (w : s ≡ 0). omega arith) in
      let w : case_c (room_of e b n) ≡ false = need_c (size (longest (other_gaps (room_of e b n)))) refl ∙ rw z in
      let x : case_d (room_of e b n) ≡ false = need_d ∙ rw z in
      ap₂ (λ (p q : Bool). p || q || case_c (room_of e b n) || case_d (room_of e b n)) t v ∙ ap₂ (λ (p q : Bool). p || q) w x

  module _ (o l : ℕ) (oo : (longest (other_gaps (room_of e b n))).off ≡ o) (ol : size (longest (other_gaps (room_of e b n))) ≡ l) (z : s ≡ 0) where
    not_a : case_a (room_of e b n) ≡ false
    not_a = need_a ∙ rw (lt-leb 1 s (omega arith))

    not_b : case_b (room_of e b n) ≡ false
    not_b = need_b ∙ rw (lt-leb 1 s (omega arith))

    t_off : (room_of e b n).last_gap.off ≡ u
    unfolding room_of
    t_off = sc.touch_off

    t_size : size (room_of e b n).last_gap ≡ k
    unfolding room_of
    t_size = sc.touch_size

    -- (c)
    pub is_c : 8 ≤ k → E ≤ l → (has_room e b n ≡ true)
        × (insert_writes e b n i ≡ entry_writes e i n o (o + l) ++ (gap_writes u (k - 8) ++ index_writes (length b) (insert_slot (slot (hash_of e n) (o / 8)) (slots b)) 0))
    unfolding has_room insert_writes writes_c
    is_c h m =
        let v : case_c (room_of e b n) ≡ true = need_c l ol ∙ rw (eq-eqb s 0 z, le-leb 8 k h, le-leb E l m) in (
          ap₂ (λ (p q : Bool). p || q || case_c (room_of e b n) || case_d (room_of e b n)) not_a not_b ∙ ap (λ (p : Bool). p || case_d (room_of e b n)) v,
          ap₂ (λ (p q : Bool). cond p (writes_a e b n i (room_of e b n)) (cond q (writes_b e b n i (room_of e b n)) (cond (case_c (room_of e b n)) (writes_c e b n i (room_of e b n)) (writes_d e b n i (room_of e b n))))) not_a not_b
              ∙ ap (λ (p : Bool). cond p (writes_c e b n i (room_of e b n)) (writes_d e b n i (room_of e b n))) v
              ∙ ap₂ (λ (x y : ℕ). entry_writes e i n x (x + y) ++ (gap_writes (room_of e b n).last_gap.off (size (room_of e b n).last_gap - 8) ++ index_writes (length b) (insert_slot (slot (hash_of e n) (x / 8)) (slots b)) 0)) oo ol
              ∙ ap₂ (λ (x y : ℕ). entry_writes e i n o (o + l) ++ (gap_writes x (y - 8) ++ index_writes (length b) (insert_slot (slot (hash_of e n) (o / 8)) (slots b)) 0)) t_off t_size,
        )

    -- (d)
    pub is_d : l < E → E + 8 ≤ k → (has_room e b n ≡ true)
        × (insert_writes e b n i ≡ entry_writes e i n u (u + k - 8) ++ index_writes (length b) (insert_slot (slot (hash_of e n) (u / 8)) (slots b)) 0)
    unfolding has_room insert_writes writes_d
    is_d h m =
        let v : case_c (room_of e b n) ≡ false = need_c l ol ∙ rw (eq-eqb s 0 z, le-leb 8 k (omega arith), lt-leb E l h) in
        let w : case_d (room_of e b n) ≡ true = need_d ∙ rw (eq-eqb s 0 z, le-leb (E + 8) k m) in (
          ap₂ (λ (p q : Bool). p || q || case_c (room_of e b n) || case_d (room_of e b n)) not_a not_b ∙ ap₂ (λ (p q : Bool). p || q) v w,
          ap₂ (λ (p q : Bool). cond p (writes_a e b n i (room_of e b n)) (cond q (writes_b e b n i (room_of e b n)) (cond (case_c (room_of e b n)) (writes_c e b n i (room_of e b n)) (writes_d e b n i (room_of e b n))))) not_a not_b
              ∙ ap (λ (p : Bool). cond p (writes_c e b n i (room_of e b n)) (writes_d e b n i (room_of e b n))) v
              ∙ ap₂ (λ (x y : ℕ). entry_writes e i n x (x + y - 8) ++ index_writes (length b) (insert_slot (slot (hash_of e n) (x / 8)) (slots b)) 0) t_off t_size,
        )

    pub no_t : k < 8 → has_room e b n ≡ false
    unfolding has_room
    no_t h =
        let v : case_c (room_of e b n) ≡ false = need_c l ol ∙ rw (eq-eqb s 0 z, lt-leb 8 k h) in
        let w : case_d (room_of e b n) ≡ false = need_d ∙ rw (eq-eqb s 0 z, lt-leb (E + 8) k (omega arith)) in
        ap₂ (λ (p q : Bool). p || q || case_c (room_of e b n) || case_d (room_of e b n)) not_a not_b ∙ ap₂ (λ (p q : Bool). p || q) v w

    pub no_cd : l < E → k < E + 8 → has_room e b n ≡ false
    unfolding has_room
    no_cd h m =
        let v : case_c (room_of e b n) ≡ false = need_c l ol ∙ by_cases (leb 8 k) (λ q. rw (eq-eqb s 0 z, q, lt-leb E l h)) (λ q. rw (eq-eqb s 0 z, q)) in
        let w : case_d (room_of e b n) ≡ false = need_d ∙ rw (eq-eqb s 0 z, lt-leb (E + 8) k m) in
        ap₂ (λ (p q : Bool). p || q || case_c (room_of e b n) || case_d (room_of e b n)) not_a not_b ∙ ap₂ (λ (p q : Bool). p || q) v w

-- ---- where a gap lies

gap_inside : (e : Edition) (b : List ℕ) (t : Tiled e b) (w : Split (gaps (records e b))) → Inside e b w.here.off (size w.here)
gap_inside e b t w =
    let f : FoundIn is_gap (records e b) w.before w.here w.behind = keep_find is_gap (records e b) w.before w.here w.behind w.is in
    let v : Here e b t f.before w.here f.behind (e.header + length (join f.before)) = here e b t f.before w.here f.behind (e.header + length (join f.before)) f.is refl in
    record { from = omega (arith, v.off_is); upto = omega (arith, v.fits, v.off_is); eights = v.is_whole.eights }

pub longest_inside : (e : Edition) (b : List ℕ) → Tiled e b → (o l : ℕ) → 0 < l → (longest (gaps (records e b))).off ≡ o → size (longest (gaps (records e b))) ≡ l → Inside e b o l
longest_inside e b t o l h p q =
    let w = longest_in (gaps (records e b)) (omega (arith, q)) in
    subst (λ (x : ℕ). Inside e b o x) q (subst (λ (x : ℕ). Inside e b x (size (longest (gaps (records e b))))) p (subst (λ (r : Rec). Inside e b r.off (size r)) w.1 (gap_inside e b t w.0)))

pub other_inside : (e : Edition) (b n : List ℕ) → Tiled e b → (o l : ℕ) → 0 < l → (longest (other_gaps (room_of e b n))).off ≡ o → size (longest (other_gaps (room_of e b n))) ≡ l → Inside e b o l
unfolding room_of
other_inside e b n t o l h p q =
    let u : ℕ = (touching (data_end b) (records e b)).off in
    let w = longest_in (besides (touching (data_end b) (records e b)).off (gaps (records e b))) (omega (arith, q)) in
    let f : FoundIn (elsewhere (touching (data_end b) (records e b)).off) (gaps (records e b)) w.0.before w.0.here w.0.behind =
    keep_find (elsewhere (touching (data_end b) (records e b)).off) (gaps (records e b)) w.0.before w.0.here w.0.behind w.0.is in
    let g : Inside e b w.0.here.off (size w.0.here) = gap_inside e b t (record { before = f.before; here = w.0.here; behind = f.behind; is = f.is }) in
    subst (λ (x : ℕ). Inside e b o x) q (subst (λ (x : ℕ). Inside e b x (size (longest (other_gaps (room_of e b n))))) p (subst (λ (r : Rec). Inside e b r.off (size r)) w.1 g))

-- ---- what an insert leaves before its table is written is tiled

pub insert_tiled : (e : Edition) (sane : Sane e) (b n : List ℕ) (i : Target) → Ready e b → bytes n ≡ true → legal_name e n ≡ true → legal_in e (own_of e b) i ≡ true → fixed_name n ≡ false
    → (sought e b n).hit ≡ false → has_room e b n ≡ true → Tiled e (written b (insert_writes e b n i))
insert_tiled e sane b n i r nb ln li fx ht rm =
    tiled_changed e sane b (insert_writes e b n i) (bytes_written b (insert_writes e b n i) r.are_bytes (all_insert e b n i nb (name_lt e n ln)))
    (insert_any e sane b r.are_bytes r.ok i n
    (record { name_bytes = nb; name_legal = ln; number_legal = li; not_fixed = fx; absent = sym (hit_of e sane b r.are_bytes r.ok n) ∙ ht }) rm).accepted

alone : (p : ℕ) (g : Rec) → last_of p (g ∷ []) ≡ g
unfolding last_of
alone p g = refl

-- ---- the longest gap other than T ends where T starts, or before

last_append : (p : ℕ) (xs : List Rec) (z : Rec) (zs : List Rec) → last_of p (xs ++ z ∷ zs) ≡ last_of p (z ∷ zs)
unfolding last_of
last_append p [] z zs = refl
last_append p (x ∷ []) z zs = refl
last_append p (x ∷ y ∷ xs) z zs = last_append p (y ∷ xs) z zs

last_laid : (e : Edition) (o p : ℕ) (z : Rec) (zs : List Rec) → Laid e o (z ∷ zs) → o ≤ (last_of p (z ∷ zs)).off
unfolding last_of
last_laid e o p z [] l = omega (arith, l.0)
last_laid e o p z (y ∷ zs) l = omega (arith, last_laid e (o + size z) p y zs l.2)

touch_last : (p : ℕ) (rs : List Rec) → 8 ≤ size (touching p rs) → touching p rs ≡ last_of p rs
unfolding touching
touch_last p rs h = by_cases (is_gap (last_of p rs)) (λ q. rw q refl) (λ q. absurd (omega (arith, rw q at h)))

before_last : (e : Edition) (b : List ℕ) (t : Tiled e b) (w : Split (gaps (records e b))) → 8 ≤ size (touching (data_end b) (records e b))
    → (w.here.off ≡ (touching (data_end b) (records e b)).off → ⊥) → w.here.off + size w.here ≤ (touching (data_end b) (records e b)).off
before_last e b t w k ne =
    let f : FoundIn is_gap (records e b) w.before w.here w.behind = keep_find is_gap (records e b) w.before w.here w.behind w.is in
    let tl : touching (data_end b) (records e b) ≡ last_of (data_end b) (records e b) = touch_last (data_end b) (records e b) k in
    let l : Laid e (e.header + length (join f.before)) (w.here ∷ f.behind) = laid_back e e.header f.before (w.here ∷ f.behind) (subst (λ (r : List Rec). Laid e e.header r) f.is (laid_all e b t)) in
    let la : last_of (data_end b) (records e b) ≡ last_of (data_end b) (w.here ∷ f.behind) = ap (last_of (data_end b)) f.is ∙ last_append (data_end b) f.before w.here f.behind in
    go w.here f.behind (e.header + length (join f.before)) l (tl ∙ la) ne
  where
    go : (g : Rec) (zs : List Rec) (o : ℕ) → Laid e o (g ∷ zs) → touching (data_end b) (records e b) ≡ last_of (data_end b) (g ∷ zs)
        → (g.off ≡ (touching (data_end b) (records e b)).off → ⊥) → g.off + size g ≤ (touching (data_end b) (records e b)).off
    go g [] o l q n = absurd (n (sym (ap (λ (r : Rec). r.off) (q ∙ alone (data_end b) g))))
    go g (z ∷ zs) o l q n =
        let m : last_of (data_end b) (g ∷ z ∷ zs) ≡ last_of (data_end b) (z ∷ zs) = last_append (data_end b) (g ∷ []) z zs in
        omega (arith, l.0, last_laid e (o + size g) (data_end b) z zs l.2, ap (λ (r : Rec). r.off) (q ∙ m))

pub other_before : (e : Edition) (b n : List ℕ) → Tiled e b → (o l u k : ℕ) → 0 < l → 8 ≤ k → (longest (other_gaps (room_of e b n))).off ≡ o → size (longest (other_gaps (room_of e b n))) ≡ l
    → (touching (data_end b) (records e b)).off ≡ u → size (touching (data_end b) (records e b)) ≡ k → o + l ≤ u
unfolding room_of
other_before e b n t o l u k h kk p q tu tk =
    let w = longest_in (besides (touching (data_end b) (records e b)).off (gaps (records e b))) (omega (arith, q)) in
    let f : FoundIn (elsewhere (touching (data_end b) (records e b)).off) (gaps (records e b)) w.0.before w.0.here w.0.behind =
    keep_find (elsewhere (touching (data_end b) (records e b)).off) (gaps (records e b)) w.0.before w.0.here w.0.behind w.0.is in
    let g : w.0.here.off + size w.0.here ≤ (touching (data_end b) (records e b)).off =
    before_last e b t (record { before = f.before; here = w.0.here; behind = f.behind; is = f.is }) (omega (arith, tk)) (λ z. eqb-false w.0.here.off (touching (data_end b) (records e b)).off (not-true _ f.passes) z) in
    omega (arith, g, ap (λ (r : Rec). r.off) w.1, ap (λ (r : Rec). size r) w.1, p, q, tu)

-- ---- each case: the index, then the rest

module _ (e : Edition) (b n : List ℕ) (r : Ready e b) (i : Target) (h a : ℕ) where
  fits : data_end b + 8 * count_of b + 8 ≡ length b
  fits = end_fits e b (tiled e b r)

  long_reuse : 0 < stale_of b → (sane : Sane e) → length (insert_slot (slot h a) (without_first is_stale (slots b))) ≡ count_of b
  long_reuse st sane =
      length_insert (slot h a) (without_first is_stale (slots b)) ∙ length_without is_stale (slots b) (subst (λ (x : ℕ). 0 < x) (sym (stale_some e sane b r)) st) ∙ length_slots e b r

  long_grow : length (insert_slot (slot h a) (slots b)) ≡ count_of b + 1
  long_grow = length_insert (slot h a) (slots b) ∙ omega (arith, length_slots e b r)

  pub done_a : (sane : Sane e) (o l st : ℕ) (c d : List ℕ) → 0 < stale_of b → Inside e b o l → entry_size e (length n) ≤ l
      → c ≡ written b (index_writes (length b) (insert_slot (slot h a) (without_first is_stale (slots b))) st) → d ≡ written c (entry_writes e i n o (o + l))
      → d ≡ written b (entry_writes e i n o (o + l) ++ index_writes (length b) (insert_slot (slot h a) (without_first is_stale (slots b))) st)
  done_a sane o l st c d s g m p q =
      index_first b c d (length b) (insert_slot (slot h a) (without_first is_stale (slots b))) st (entry_writes e i n o (o + l))
      (below_entry e i n o (o + l) _ (omega arith) (omega (arith, g.upto, long_reuse s sane, fits)) (omega (arith, g.eights, entry_size_eights e (length n)))) p q

  pub done_c : (o l u k : ℕ) (c d f : List ℕ) → Inside e b o l → entry_size e (length n) ≤ l → o + l ≤ u → u + k ≡ data_end b → 8 ≤ k → k % 8 ≡ 0
      → c ≡ written b (index_writes (length b) (insert_slot (slot h a) (slots b)) 0) → d ≡ written c (entry_writes e i n o (o + l)) → f ≡ written d (gap_writes u (k - 8))
      → f ≡ written b (entry_writes e i n o (o + l) ++ (gap_writes u (k - 8) ++ index_writes (length b) (insert_slot (slot h a) (slots b)) 0))
  done_c o l u k c d f g m w t kk km p q x =
      let W : List Write = entry_writes e i n o (o + l) in
      let G : List Write = gap_writes u (k - 8) in
      index_first b c f (length b) (insert_slot (slot h a) (slots b)) 0 (entry_writes e i n o (o + l) ++ gap_writes u (k - 8))
      (below_append _ (entry_writes e i n o (o + l)) (gap_writes u (k - 8))
      (below_entry e i n o (o + l) _ (omega arith) (omega (arith, long_grow, fits)) (omega (arith, g.eights, entry_size_eights e (length n))))
      (below_gap _ u (k - 8) (omega arith) (omega (arith, long_grow, fits))))
      p (x ∙ ap (λ (y : List ℕ). written y (gap_writes u (k - 8))) q ∙ sym (written_append c (entry_writes e i n o (o + l)) (gap_writes u (k - 8))))
      ∙ ap (written b) (append_assoc (entry_writes e i n o (o + l)) (gap_writes u (k - 8)) (index_writes (length b) (insert_slot (slot h a) (slots b)) 0))

  pub done_d : (u k : ℕ) (c d : List ℕ) → u + k ≡ data_end b → entry_size e (length n) + 8 ≤ k → k % 8 ≡ 0
      → c ≡ written b (index_writes (length b) (insert_slot (slot h a) (slots b)) 0) → d ≡ written c (entry_writes e i n u (u + k - 8))
      → d ≡ written b (entry_writes e i n u (u + k - 8) ++ index_writes (length b) (insert_slot (slot h a) (slots b)) 0)
  done_d u k c d t m km p q =
      index_first b c d (length b) (insert_slot (slot h a) (slots b)) 0 (entry_writes e i n u (u + k - 8))
      (below_entry e i n u (u + k - 8) _ (omega arith) (omega (arith, long_grow, fits)) (omega (arith, entry_size_eights e (length n)))) p q

  pub done_b : (u k st : ℕ) (c d : List ℕ) → u + k ≡ data_end b → st ≡ stale_of b → 0 < st → entry_size e (length n) ≤ k + 8 * (st - 1) → k % 8 ≡ 0
      → length (keep is_live (slots b)) + st ≡ count_of b
      → c ≡ written b (index_writes (length b) (insert_slot (slot h a) (keep is_live (slots b))) 0) → d ≡ written c (entry_writes e i n u (u + k + 8 * (st - 1)))
      → d ≡ written b (entry_writes e i n u (u + k + 8 * (st - 1)) ++ index_writes (length b) (insert_slot (slot h a) (keep is_live (slots b))) 0)
  done_b u k st c d t s s0 m km lv p q =
      index_first b c d (length b) (insert_slot (slot h a) (keep is_live (slots b))) 0 (entry_writes e i n u (u + k + 8 * (st - 1)))
      (below_entry e i n u (u + k + 8 * (st - 1)) _ (omega arith) (omega (arith, length_insert (slot h a) (keep is_live (slots b)), fits)) (omega (arith, entry_size_eights e (length n)))) p q
