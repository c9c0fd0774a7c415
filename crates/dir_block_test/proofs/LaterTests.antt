-- What the passes' answers make of the verdict.
-- Assumes nothing.
use Prim.Native.Nat.{ℕ, suc, ◌+◌, ◌-◌, ◌*◌, ◌%◌, ◌≤◌, ◌<◌}
use native.Mathlib.Nat.{sub-zero}
use native.Mathlib.Omega.{arith}
use mathlib.Core.Bool.{Bool, true, false, not, ◌&&◌, beq}
use mathlib.Core.Path.{◌≡◌, refl, sym, ◌∙◌, ap, ap₂, subst}
use mathlib.Core.List.{List, [], ◌∷◌, ◌++◌, map}
use lib.Dec.{eqb, leb, ltb}
use lib.ListN.{length, drop, get_or, replicate, length-replicate, get_or-replicate}
use borrow.Author.Tests.{eqb-true, le-leb, lt-leb, leb-true, eq-eqb, ne_eqb, not-true, ltb-true, lt-ltb}
use Rattle.dir_block_rules.proofs.BlockParts.{length_slots_in}
use Rattle.be.specs.Lists.{every, tally, same}
use Rattle.be.specs.Bytes.{part, field}
use Rattle.edition.specs.declared.Edition.{Edition}
use Rattle.edition.specs.Edition.{Sane, entry_size}
use Rattle.name.specs.Name.{dot, legal_name}
use Rattle.dir_block_rules.specs.Record.{Rec, rec, whole, apart, is_gap, is_entry, entries, gaps, name}
use Rattle.dir_block_rules.specs.Block.{Slot, is_live, is_stale}
use Rattle.dir_block_rules.specs.Verdict.{entry_stands, name_ok, names_ok, numbers_ok, number_ok, own_in, index_ok, rising, best_ok, best_pairs, pair, Pair, zero_pair, once_ok}
use Rattle.be.proofs.Bools.{by_cases, and_left, and_right, every_head, every_tail, every_cons}
use Rattle.dir_block_rules.proofs.CutJoin.{Laid, join, join_cut}
use Rattle.dir_block_rules.proofs.SlotCounts.{Apart}
use Rattle.dir_block_rules.proofs.IndexedEntries.{addr_of, Indexed, indexed, index_counts}
use Rattle.be.proofs.Splits.{Split, every_at}
use Rattle.dir_block_rules.proofs.RecordPlaces.{apart_keep, laid_eights}
use Rattle.dir_block_rules.proofs.SearchFinds.{Reads, Owner, owner}
use Rattle.name.proofs.Same.{same_eq}
use Rattle.dir_block_rules.proofs.GoodParts.{laid_small}
use Rattle.dir_block_rules.specs.Lookup.{name_at}
use Rattle.dir_block_twice.specs.Twice.{slots_from, Reach, addr_at, once_in}
use Rattle.dir_block_test.specs.Passes.{cells_of, hint, rest, DataTiled, best_left, ordered_with, own_at, worst, after_tile, after_index}
use Rattle.be.proofs.Parts.{part_length}
use Rattle.dir_block_rules.proofs.StoredPairs.{pairs_read}
use Rattle.dir_block_test.proofs.TileWalk.{Head, rest_head, head_gap}
use Rattle.dir_block_test.proofs.WholeRecord.{says_entry}
use Rattle.dir_block_test.proofs.EntryWalk.{entry_fits, name_here, number_here}
use Rattle.dir_block_twice.proofs.SlotList.{slot_at}
use Rattle.dir_block_test.proofs.SlotTable.{slots_split, table_law, hinted}
use Rattle.dir_block_test.proofs.FaultsAnswer.{tile_is, worst_7, worst_8, worst_9}
use Rattle.dir_block_test.proofs.OneSlotEach.{ordered_with_is}
use Rattle.dir_block_test.proofs.BestNamed.{at_most, best_law}
use Rattle.dir_block_test.proofs.TwinSlots.{twice_law, once_free}
use Rattle.dir_block_test.proofs.TiledParts.{sep_laid, small_most, placed, rest_placed, laid_rest, at_head, head_of}

pub both_there : {r x y u v : Bool} → r ≡ (x && y) → x ≡ u → y ≡ v → r ≡ (u && v)
both_there h p q = h ∙ ap₂ (λ (a c : Bool). a && c) p q

module _ (e : Edition) (sane : Sane e) (b : List ℕ) (t n : ℕ) where
  live_stale : (ss : List Slot) → tally is_live ss + tally is_stale ss ≡ length ss
  live_stale [] = refl
  live_stale (s ∷ ss) =
      let ih : tally is_live ss + tally is_stale ss ≡ length ss = live_stale ss in
      by_cases (is_stale s) (λ q. rw q (omega arith)) (λ q. rw q (omega arith))

  count_is : tally is_live (slots_from b t n 0) + tally is_stale (slots_from b t n 0) ≡ n
  unfolding slots_from
  count_is = live_stale (slots_from b t n 0) ∙ length_slots_in (n - 0) (drop (t + 8 * 0) b) ∙ sub-zero n

  module _ (T : DataTiled e b t n) where
    abbrev pub RS : List Rec
    RS = rest e b t (length b) e.header

    abbrev pub SS : List Slot
    SS = slots_from b t n 0

    hi : t ≤ length b
    hi = omega (arith, T.parts.slots_fit)

    enough : t - e.header ≤ length b
    enough = omega (arith, hi)

    pub wholes : every (whole e) RS ≡ true
    wholes = and_left (every (whole e) RS) (apart RS) (sym (tile_is e RS) ∙ T.tiles)

    laid : Laid e e.header RS
    laid = laid_rest e b t hi T.parts.eights (length b) e.header wholes

    addrs : Apart (map addr_of (entries RS))
    addrs = apart_keep e is_entry e.header RS (omega arith) laid

    all_placed : every (placed e b t hi T.parts.eights) (entries RS) ≡ true
    all_placed = rest_placed e b t hi T.parts.eights (length b) e.header T.parts.least sane.header_eights enough wholes

    reads : Reads e b (entries RS)
    reads = record {
      eights = laid_eights e is_entry e.header RS sane.header_eights laid;
      named = λ s. same_eq (name_at b s.here.off) (name s.here)
          (and_right (leb (s.here.off + 9 + get_or b (s.here.off + 8) 0) t) _
          (every_at (placed e b t hi T.parts.eights) s.before s.here s.behind (rw s.is at all_placed)));
    }

    -- TWICE
    module _ (m : ℕ) (x : index_ok e RS SS m ≡ true) where
      ix : Indexed e (entries RS) SS m
      ix = indexed e RS SS m addrs x

      pub once_is : once_ok e (entries RS) ≡ once_in e b SS
      once_is = twice_law e b (entries RS) SS m ix addrs reads ∙ sym (once_free e b 0 SS ix.order)

      pub reach : Reach b t n
      reach i h u =
          let s : (us : List Slot) × (slots_from b t n 0 ≡ us ++ slot_at b t i ∷ slots_from b t n (i + 1)) = slots_split b t n i h in
          let l : is_live (slot_at b t i) ≡ true = rw (ne_eqb (addr_at b t i) 0 u) in
          let o : Owner e (entries RS) (slot_at b t i) =
          owner e (entries RS) s.0 (slot_at b t i) (slots_from b t n (i + 1)) m (subst (λ (k : List Slot). Indexed e (entries RS) k m) s.1 ix) addrs l in
          let r : Split (entries RS) = o.split in
          let p : placed e b t hi T.parts.eights r.here ≡ true = every_at (placed e b t hi T.parts.eights) r.before r.here r.behind (subst (λ (k : List Rec). every (placed e b t hi T.parts.eights) k ≡ true) r.is all_placed) in
          let f : r.here.off + 9 + get_or b (r.here.off + 8) 0 ≤ t = leb-true (r.here.off + 9 + get_or b (r.here.off + 8) 0) t (and_left _ _ p) in
          let g : 8 * addr_of r.here ≡ r.here.off =
          eqb-true (8 * addr_of r.here) r.here.off (every_at (λ c. eqb (8 * addr_of c) c.off) r.before r.here r.behind (subst (λ (k : List Rec). every (λ c. eqb (8 * addr_of c) c.off) k ≡ true) r.is reads.eights)) in
          let a : 8 * addr_at b t i ≡ r.here.off = ap (λ (k : ℕ). 8 * k) (sym o.addr_is) ∙ g in
          let f' : 8 * addr_at b t i + 9 + get_or b (8 * addr_at b t i + 8) 0 ≤ t = subst (λ (k : ℕ). k + 9 + get_or b (k + 8) 0 ≤ t) (sym a) f in
          omega (arith, T.parts.slots_fit, f')

    -- BEST
    data_long : length (join RS) ≡ t - e.header
    unfolding rest
    data_long =
        let l : length (part e.header (t - e.header) b) ≡ t - e.header = part_length e.header (t - e.header) b (omega (arith, hi, T.parts.least)) in
        ap length (join_cut e (length b) e.header (part e.header (t - e.header) b) (omega (arith, hi)) wholes) ∙ l

    most : at_most 65535 (gaps RS) ≡ true
    most = small_most (gaps RS) (laid_small e is_gap e.header RS laid (omega (arith, data_long, T.parts.short, T.parts.least)))

    module _ (pf pl qf ql sf sl : ℕ) (p0 : pf ≡ field e.best 2 b) (p1 : pl ≡ field (e.best + 2) 2 b) (pb : pl < 65536) (q0 : qf ≡ field (e.best + 4) 2 b) (q1 : ql ≡ field (e.best + 4 + 2) 2 b)
        (s0 : sf ≡ field (e.best + 8) 2 b) (s1 : sl ≡ field (e.best + 8 + 2) 2 b) where
      best_is : best_ok (best_pairs e b) (gaps RS)
          ≡ (leb ql pl && (leb sl ql && best_left (zero_pair (pair pf pl)) (zero_pair (pair qf ql)) (zero_pair (pair sf sl)) (pair pf pl) (pair qf ql) (pair sf sl) (gaps RS)))
      best_is =
          let a : e.best + 4 + 2 ≡ e.best + 6 = omega arith in
          let c : e.best + 8 + 2 ≡ e.best + 10 = omega arith in
          ap (λ (ps : List Pair). best_ok ps (gaps RS))
          (sym (pairs_read e b pf pl qf ql sf sl p0 p1 q0 (q1 ∙ ap (λ (k : ℕ). field k 2 b) a) s0 (s1 ∙ ap (λ (k : ℕ). field k 2 b) c)))
          ∙ best_law (pair pf pl) (pair qf ql) (pair sf sl) 65535 (gaps RS) (sep_laid e is_gap e.header RS laid) most (omega arith)

      pub best_fits_is : (x y z r a : Bool) → x ≡ zero_pair (pair pf pl) → y ≡ zero_pair (pair qf ql) → z ≡ zero_pair (pair sf sl)
          → r ≡ best_left x y z (pair pf pl) (pair qf ql) (pair sf sl) (gaps RS) → a ≡ (leb ql pl && (leb sl ql && r)) → a ≡ best_ok (best_pairs e b) (gaps RS)
      best_fits_is x y z r a xs ys zs rs h =
          h ∙ ap (λ (k : Bool). leb ql pl && (leb sl ql && k)) (rs ∙ rw (xs, ys, zs) refl) ∙ sym best_is

    -- the end
    module _ (m : ℕ) (x : index_ok e RS SS m ≡ true) (g : Bool) (gs : g ≡ best_ok (best_pairs e b) (gaps RS)) where
      pub end_9 : g ≡ false → 9 ≡ after_index e b RS
      unfolding after_index
      end_9 f = sym (rw (sym gs ∙ f))

      module _ (gt : g ≡ true) (o : Bool) (os : o ≡ once_in e b SS) where
        pub end_10 : o ≡ false → 10 ≡ after_index e b RS
        unfolding after_index
        end_10 f = sym (rw (sym gs ∙ gt, once_is m x ∙ sym os ∙ f))

        pub end_0 : o ≡ true → 0 ≡ after_index e b RS
        unfolding after_index
        end_0 f = sym (rw (sym gs ∙ gt, once_is m x ∙ sym os ∙ f))

    pub room_8 : (o : ℕ) → o < t → o % 8 ≡ 0 → o + 8 ≤ length b
    room_8 o h q = omega (arith, hi, T.parts.eights)

    -- "." and ".."
    abbrev there : ℕ → Bool
    there o = ltb o t && not (eqb (field o 2 b) 0xffff)

    at_dot : entry_stands e.header RS ≡ there e.header
    at_dot = at_head e b t hi T.parts.eights (length b) e.header T.parts.least sane.header_eights enough wholes

    one_size : entry_size e 1 ≡ 16
    unfolding entry_size
    one_size = omega (arith, sane.ftype_most)

    at_dotdot : every (name_ok e) (entries RS) ≡ true → there e.header ≡ true → entry_stands (e.header + 16) RS ≡ there (e.header + 16)
    unfolding entry_size
    at_dotdot h w =
        let te : t % 8 ≡ 0 = T.parts.eights in
        let lo : e.header < t = ltb-true e.header t (and_left (ltb e.header t) _ w) in
        let g : eqb (field e.header 2 b) 0xffff ≡ false = not-true (eqb (field e.header 2 b) 0xffff) (and_right (ltb e.header t) _ w) in
        let k : ℕ = length b - 1 in
        let K : length b ≡ suc (length b - 1) = omega (arith, hi) in
        let x : (n : ℕ) × Head e b t e.header n = head_of e b t hi te (length b) e.header lo sane.header_eights enough wholes in
        let nx : RS ≡ rec e.header (part e.header x.0 b) ∷ rest e b t (length b - 1) (e.header + x.0) =
        ap (λ (j : ℕ). rest e b t j e.header) K ∙ rest_head e b t e.header lo hi (length b - 1) x.0 x.1 in
        let i : is_gap (rec e.header (part e.header x.0 b)) ≡ false = head_gap e b t e.header lo hi x.0 x.1 ∙ g in
        let es : entries RS ≡ rec e.header (part e.header x.0 b) ∷ entries (rest e b t (length b - 1) (e.header + x.0)) = ap entries nx ∙ rw i in
        let ok : name_ok e (rec e.header (part e.header x.0 b)) ≡ true =
        every_head (name_ok e) (rec e.header (part e.header x.0 b)) (entries (rest e b t (length b - 1) (e.header + x.0))) (subst (λ (l : List Rec). every (name_ok e) l ≡ true) es h) in
        let nm : List ℕ = name (rec e.header (part e.header x.0 b)) in
        let d : same (name (rec e.header (part e.header x.0 b))) dot ≡ true =
        beq_true (same (name (rec e.header (part e.header x.0 b))) dot) (eqb e.header e.header) (eq-eqb e.header e.header refl) (and_right (legal_name e (name (rec e.header (part e.header x.0 b)))) _ (and_left _ _ ok)) in
        let len : ℕ = get_or b (e.header + 8) 0 in
        let ef : e.header + 9 + get_or b (e.header + 8) 0 ≤ t = entry_fits e b t e.header x.0 lo hi x.1 g in
        let one : get_or b (e.header + 8) 0 ≡ 1 =
        sym (part_length (e.header + 9) (get_or b (e.header + 8) 0) b (omega (arith, hi))) ∙ ap length (sym (name_here e b t e.header x.0 lo hi x.1 g) ∙ same_eq (name (rec e.header (part e.header x.0 b))) dot d) in
        let sz : x.0 ≡ 16 =
        sym x.1.is ∙ says_entry e b e.header (t - e.header) (omega arith) g (omega arith) ∙ ap (entry_size e) one ∙ one_size in
        let nx' : RS ≡ rec e.header (part e.header x.0 b) ∷ rest e b t (length b - 1) (e.header + 16) = nx ∙ ap (λ (j : ℕ). rec e.header (part e.header x.0 b) ∷ rest e b t (length b - 1) (e.header + j)) sz in
        let w' : every (whole e) (rest e b t (length b - 1) (e.header + 16)) ≡ true =
        every_tail (whole e) (rec e.header (part e.header x.0 b)) (rest e b t (length b - 1) (e.header + 16)) (subst (λ (l : List Rec). every (whole e) l ≡ true) nx' wholes) in
        let within : (e.header + 16) ≤ t = omega (arith, x.1.fits) in
        ap (entry_stands (e.header + 16)) nx' ∙ rw (i, ne_eqb e.header (e.header + 16) (λ (q : e.header ≡ e.header + 16). omega arith)) (at_head e b t hi te (length b - 1) (e.header + 16) within (omega (arith, sane.header_eights)) (omega (arith, hi)) w')
      where
        beq_true : (x y : Bool) → y ≡ true → beq x y ≡ true → x ≡ true
        beq_true true y q h = refl
        beq_true false true q h = h
        beq_true false false q h = q

    -- its number
    own_is : there e.header ≡ true → own_in e (entries RS) ≡ own_at e b
    unfolding own_in
    own_is w =
        let te : t % 8 ≡ 0 = T.parts.eights in
        let lo : e.header < t = ltb-true e.header t (and_left (ltb e.header t) _ w) in
        let g : eqb (field e.header 2 b) 0xffff ≡ false = not-true (eqb (field e.header 2 b) 0xffff) (and_right (ltb e.header t) _ w) in
        let K : length b ≡ suc (length b - 1) = omega (arith, hi) in
        let x : (n : ℕ) × Head e b t e.header n = head_of e b t hi te (length b) e.header lo sane.header_eights enough wholes in
        let nx : RS ≡ rec e.header (part e.header x.0 b) ∷ rest e b t (length b - 1) (e.header + x.0) =
        ap (λ (j : ℕ). rest e b t j e.header) K ∙ rest_head e b t e.header lo hi (length b - 1) x.0 x.1 in
        let i : is_gap (rec e.header (part e.header x.0 b)) ≡ false = head_gap e b t e.header lo hi x.0 x.1 ∙ g in
        ap (λ (l : List Rec). own_in e (entries l)) nx ∙ rw (i, eq-eqb e.header e.header refl) (number_here e b t e.header x.0 lo hi x.1 g)

    fixed : every (name_ok e) (entries RS) ≡ true → names_ok e RS ≡ (there e.header && there (e.header + 16))
    unfolding names_ok
    fixed h =
        by_cases (there e.header)
        (λ w. rw (h, at_dot, w) (at_dotdot h w))
        (λ w. rw (h, at_dot, w))

    -- INDEX
    module _ (m live : ℕ) (c : ℕ) (cs : t ≤ 8 * c) (ml : m ≤ n) (lv : live ≡ length (entries RS)) (fit : Bool) (fs : fit ≡ (ordered_with 0 0 m SS && eqb (n - m) live)) where
      abbrev M : List ℕ
      M = replicate c 0

      Ms : t ≤ 8 * length M
      Ms = omega (arith, cs, length-replicate {A = ℕ} c 0)

      Mn : (a : ℕ) → a < length M → get_or M a 0 ≡ 0
      Mn a h = get_or-replicate {A = ℕ} c a 0 0 (omega (arith, length-replicate {A = ℕ} c 0))

      reachable : every (λ r. ltb (addr_of r) (length M)) (entries RS) ≡ true
      reachable = go (entries RS) all_placed
        where
          go : (es : List Rec) → every (placed e b t hi T.parts.eights) es ≡ true → every (λ r. ltb (addr_of r) (length M)) es ≡ true
          go [] h = refl
          go (r ∷ es) h =
              let f : r.off + 9 + get_or b (r.off + 8) 0 ≤ t = leb-true (r.off + 9 + get_or b (r.off + 8) 0) t (and_left _ _ (every_head (placed e b t hi T.parts.eights) r es h)) in
              every_cons (λ r. ltb (addr_of r) (length M)) r es (lt-ltb (addr_of r) (length M) (omega (arith, hi, Ms)))
              (go es (every_tail (placed e b t hi T.parts.eights) r es h))

      pub index_is : index_ok e RS SS m ≡ (fit && every (hinted b t n M e) (entries RS))
      index_is =
          index_counts e RS SS m addrs
          ∙ rw (fs, ordered_with_is m SS, lv)
          (by_cases (rising SS && eqb (tally is_stale SS) m)
          (λ q. let st : tally is_stale SS ≡ m = eqb-true (tally is_stale SS) m (and_right (rising SS) _ q) in
          let lvs : tally is_live SS ≡ n - m = omega (arith, count_is) in
          rw (q, lvs) (by_cases (eqb (n - m) (length (entries RS)))
          (λ z. rw z (table_law b t n M e Mn (entries RS) addrs reachable (lvs ∙ eqb-true (n - m) (length (entries RS)) z)))
          (λ z. rw z)))
          (λ q. rw q))

      module _ (w : ℕ) (ws : w ≡ worst e (own_at e b) (hint (cells_of b t M n)) RS) where
        names_7 : leb 7 w ≡ every (name_ok e) (entries RS)
        names_7 = ap (leb 7) ws ∙ worst_7 e (own_at e b) (hint (cells_of b t M n)) RS

        names_8 : leb 8 w ≡ (every (name_ok e) (entries RS) && every (number_ok e (own_at e b)) (entries RS))
        names_8 = ap (leb 8) ws ∙ worst_8 e (own_at e b) (hint (cells_of b t M n)) RS

        pub end_6 : w < 7 → 6 ≡ after_tile e b RS SS m
        unfolding after_tile names_ok
        end_6 h = sym (rw (sym names_7 ∙ lt-leb 7 w h))

        module _ (h7 : 7 ≤ w) (x : Bool) (xs : x ≡ (there e.header && there (e.header + 16))) where
          named : every (name_ok e) (entries RS) ≡ true
          named = sym names_7 ∙ le-leb 7 w h7

          pub end_6' : x ≡ false → 6 ≡ after_tile e b RS SS m
          unfolding after_tile
          end_6' f = sym (rw (fixed named ∙ sym xs ∙ f))

          module _ (xt : x ≡ true) where
            names : names_ok e RS ≡ true
            names = fixed named ∙ sym xs ∙ xt

            own_numbers : every (number_ok e (own_at e b)) (entries RS) ≡ numbers_ok e RS
            unfolding numbers_ok
            own_numbers = ap (λ (k : ℕ). every (number_ok e k) (entries RS)) (sym (own_is (and_left (there e.header) _ (sym xs ∙ xt))))

            pub end_7 : w < 8 → 7 ≡ after_tile e b RS SS m
            unfolding after_tile
            end_7 h =
                let z : numbers_ok e RS ≡ false = sym own_numbers ∙ sym (names_8 ∙ rw named) ∙ lt-leb 8 w h in
                sym (rw (names, z))

            module _ (h8 : 8 ≤ w) where
              numbers : numbers_ok e RS ≡ true
              numbers = sym own_numbers ∙ sym (names_8 ∙ rw named) ∙ le-leb 8 w h8

              pub end_8 : fit ≡ false → 8 ≡ after_tile e b RS SS m
              unfolding after_tile
              end_8 f =
                  let z : index_ok e RS SS m ≡ false = index_is ∙ rw f in
                  sym (rw (names, numbers, z))

              module _ (ft : fit ≡ true) where
                slots_9 : leb 9 w ≡ every (hinted b t n M e) (entries RS)
                slots_9 =
                    ap (leb 9) ws ∙ worst_9 e (own_at e b) (hint (cells_of b t M n)) RS ∙ rw (named, own_numbers ∙ numbers)

                pub end_8' : w < 9 → 8 ≡ after_tile e b RS SS m
                unfolding after_tile
                end_8' h =
                    let z : index_ok e RS SS m ≡ false = index_is ∙ rw ft (sym slots_9 ∙ lt-leb 9 w h) in
                    sym (rw (names, numbers, z))

                pub indexed_ok : 9 ≤ w → index_ok e RS SS m ≡ true
                indexed_ok h = index_is ∙ rw ft (sym slots_9 ∙ le-leb 9 w h)

                pub end_index : 9 ≤ w → (r : ℕ) → r ≡ after_index e b RS → r ≡ after_tile e b RS SS m
                unfolding after_tile
                end_index h r rs = rs ∙ sym (rw (names, numbers, indexed_ok h))
