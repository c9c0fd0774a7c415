-- Search: slots whose hashes never fall, cut in two by a hash; the linear search over either part.
-- Assumes nothing.
use Prim.Native.Nat.{ℕ, zero, suc, ◌+◌, ◌-◌, ◌*◌, ◌≤◌, ◌<◌}
use native.Mathlib.Nat.{add-zero, add-suc, suc-add, sub-zero}
use native.Mathlib.Numerals.{add-one}
use native.Mathlib.Omega.{arith}
use mathlib.Core.Bool.{true, false, cond, ◌&&◌}
use mathlib.Core.Path.{◌≡◌, refl, sym, ◌∙◌, ap, ap₂, subst}
use mathlib.Core.List.{List, [], ◌∷◌, ◌++◌}
use lib.Dec.{eqb, leb, ltb}
use lib.ListN.{length, take, drop, get_or, length-drop, length-take, take-append-drop, drop_of_length-le}
use lib.Seq.{drop-drop}
use borrow.Author.Tests.{ltb-true, ltb-false, leb-true, lt-ltb, le-leb, eq-eqb, ne_eqb, eqb-true, not-true}
use Rattle.be.specs.Lists.{every}
use Rattle.be.proofs.Parts.{bytes_all}
use Rattle.be.specs.Bytes.{byte, be, field}
use Rattle.edition.specs.declared.Edition.{Edition}
use Rattle.edition.specs.Edition.{entry_size, Sane}
use Rattle.dir_block_rules.specs.Record.{Rec, size, is_gap, is_entry, entries}
use Rattle.name.specs.Name.{hash_of, same_name}
use Rattle.dir_block_rules.specs.Block.{Slot, slot, slots_in, slots, records, count_of, stale_of, data_end, is_live}
use Rattle.dir_block_rules.specs.Lookup.{candidate, step_if, seek, sought, name_at}
use Rattle.dir_block_rules.specs.Verdict.{verdict, size_ok}
use Rattle.be.proofs.Bools.{by_cases, every_head, every_tail, every_cons}
use Rattle.dir_block_rules.proofs.SlotOrder.{From}
use Rattle.dir_block_rules.proofs.CutJoin.{join}
use Rattle.edition.proofs.Sizes.{entry_size_least}
use Rattle.dir_block_rules.proofs.BlockParts.{slots_count}
use Rattle.dir_block_rules.proofs.IndexedEntries.{Indexed, addr_of}
use Rattle.be.proofs.Splits.{Split, every_at}
use Rattle.dir_block_rules.proofs.SearchFinds.{Owner, owner}
use Rattle.dir_block_rules.proofs.Acceptance.{Passed, passed}
use Rattle.dir_block_rules.proofs.WholeRecords.{tile_whole}
use Rattle.dir_block_rules.proofs.GoodParts.{block_bound}
use Rattle.dir_block_rules.proofs.AcceptedParts.{good_of, apart_of, reads_of, keep_find, FoundIn}
use Rattle.dir_block_laws.specs.Tiled.{Tiled, Ready}
use Rattle.dir_block_laws.specs.SlotIndex.{all_below, all_from}
use Rattle.dir_block_laws.proofs.RecordSteps.{Here, here, end_fits, stale_most}
use Rattle.dir_block_laws.proofs.RecordPass.{says_entry}

-- ---- slots one by one

pub slots_drop : (i n : ℕ) (d : List ℕ) → i ≤ n → drop i (slots_in n d) ≡ slots_in (n - i) (drop (8 * i) d)
unfolding slots_in
slots_drop zero n d h = rw sub-zero
slots_drop (suc i) zero d h = absurd (omega arith)
slots_drop (suc i) (suc n) d h =
    let q : 8 + 8 * i ≡ 8 * suc i = omega arith in
    let r : suc n - suc i ≡ n - i = omega arith in
    slots_drop i n (drop 8 d) (omega arith) ∙ ap₂ slots_in (sym r) (drop-drop (8 * i) 8 d ∙ ap (λ (k : ℕ). drop k d) q)

slots_cons : (n : ℕ) (d : List ℕ) → 0 < n → slots_in n d ≡ slot (field 0 4 d) (field 4 4 d) ∷ drop 1 (slots_in n d)
unfolding slots_in
slots_cons zero d h = absurd (omega arith)
slots_cons (suc n) d h = refl

pub slot_at : (b : List ℕ) (i : ℕ) → i < count_of b
    → drop i (slots b) ≡ slot (field (data_end b + 8 * i) 4 b) (field (data_end b + 8 * i + 4) 4 b) ∷ drop (i + 1) (slots b)
unfolding slots
slot_at b i h =
    let d : List ℕ = drop (data_end b) b in
    let s : drop i (slots_in (count_of b) d) ≡ slots_in (count_of b - i) (drop (8 * i) d) = slots_drop i (count_of b) d (omega arith) in
    let e : drop (8 * i) d ≡ drop (data_end b + 8 * i) b = drop-drop (8 * i) (data_end b) b in
    let f : drop 4 (drop (8 * i) d) ≡ drop (data_end b + 8 * i + 4) b = ap (drop 4) e ∙ drop-drop 4 (data_end b + 8 * i) b in
    s ∙ slots_cons (count_of b - i) (drop (8 * i) d) (omega arith)
    ∙ ap₂ (λ (x : Slot) (l : List Slot). x ∷ l)
    (ap₂ (λ (x y : List ℕ). slot (be (take 4 x)) (be (take 4 y))) e f)
    (ap (drop 1) (sym s) ∙ drop-drop 1 i (slots_in (count_of b) d))

-- ---- hashes that never fall

head_le : (g i : ℕ) (ss : List Slot) (s : Slot) (ts : List Slot) → From g ss → drop i ss ≡ s ∷ ts → g ≤ s.hash
head_le g zero [] s ts f q = absurd (no_cons q)
  where
    no_cons : [] ≡ s ∷ ts → ⊥
    no_cons q = let z : 0 ≡ suc (length ts) = ap length q in omega arith
head_le g zero (x ∷ xs) s ts f q = let z : x ≡ s = cc in rw z at f.0
head_le g (suc i) [] s ts f q = let z : 0 ≡ suc (length ts) = ap length q in absurd (omega arith)
head_le g (suc i) (x ∷ xs) s ts f q = omega (arith, f.0, head_le x.hash i xs s ts f.1 q)

from_tail : (g i : ℕ) (ss : List Slot) (s : Slot) (ts : List Slot) → From g ss → drop i ss ≡ s ∷ ts → From s.hash ts
from_tail g zero [] s ts f q = let z : 0 ≡ suc (length ts) = ap length q in absurd (omega arith)
from_tail g zero (x ∷ xs) s ts f q =
    let y : x ≡ s = cc in
    let z : xs ≡ ts = cc in
    rw (y, z) at f.1
from_tail g (suc i) [] s ts f q = let z : 0 ≡ suc (length ts) = ap length q in absurd (omega arith)
from_tail g (suc i) (x ∷ xs) s ts f q = from_tail x.hash i xs s ts f.1 q

from_all : (g h : ℕ) (ss : List Slot) → h ≤ g → From g ss → all_from h ss ≡ true
unfolding all_from
from_all g h [] l f = refl
from_all g h (s ∷ ss) l f = every_cons (λ s. leb h s.hash) s ss (le-leb h s.hash (omega (arith, f.0))) (from_all s.hash h ss (omega (arith, f.0)) f.1)

pub go_left : (h i : ℕ) (ss : List Slot) (s : Slot) (ts : List Slot) → From 0 ss → drop i ss ≡ s ∷ ts → h ≤ s.hash → all_from h (drop i ss) ≡ true
go_left h i ss s ts f q l = rw q (from_all h h (s ∷ ts) (omega arith) (l, from_tail 0 i ss s ts f q))

below_take : (g h i : ℕ) (ss : List Slot) (s : Slot) (ts : List Slot) → From g ss → drop i ss ≡ s ∷ ts → s.hash < h → all_below h (take (suc i) ss) ≡ true
unfolding all_below
below_take g h zero [] s ts f q l = refl
below_take g h zero (x ∷ xs) s ts f q l =
    let y : x ≡ s = cc in
    every_cons (λ s. ltb s.hash h) x [] (lt-ltb x.hash h (rw y l)) refl
below_take g h (suc i) [] s ts f q l = refl
below_take g h (suc i) (x ∷ xs) s ts f q l =
    every_cons (λ s. ltb s.hash h) x (take (suc i) xs) (lt-ltb x.hash h (omega (arith, head_le x.hash i xs s ts f.1 q))) (below_take x.hash h i xs s ts f.1 q l)

pub go_right : (h i : ℕ) (ss : List Slot) (s : Slot) (ts : List Slot) → From 0 ss → drop i ss ≡ s ∷ ts → s.hash < h → all_below h (take (i + 1) ss) ≡ true
go_right h i ss s ts f q l = rw add-one (below_take 0 h i ss s ts f q l)

-- ---- the linear search

seek_below : (e : Edition) (b n : List ℕ) (h k c : ℕ) (us vs : List Slot) → all_below h us ≡ true → seek e b n h k c (us ++ vs) ≡ seek e b n h (k + length us) c vs
unfolding seek all_below
seek_below e b n h k c [] vs p = rw add-zero
seek_below e b n h k c (s ∷ us) vs p =
    let l : s.hash < h = ltb-true s.hash h (every_head (λ s. ltb s.hash h) s us p) in
    let x : eqb s.hash h ≡ false = ne_eqb s.hash h (λ (z : s.hash ≡ h). omega arith) in
    let y : candidate h s ≡ false = by_cases (is_live s) (λ w. rw (w, x)) (λ w. rw w) in
    rw (y, add-suc, ← suc-add) (seek_below e b n h (suc k) c us vs (every_tail (λ s. ltb s.hash h) s us p))

-- the search may start at the first slot that is not below
pub seek_from : (e : Edition) (b n : List ℕ) (i : ℕ) → i ≤ length (slots b) → all_below (hash_of e n) (take i (slots b)) ≡ true
    → seek e b n (hash_of e n) i 0 (drop i (slots b)) ≡ sought e b n
unfolding sought
seek_from e b n i h p =
    let l : 0 + length (take i (slots b)) ≡ i = simp length-take (omega arith) in
    sym (ap (seek e b n (hash_of e n) 0 0) (sym (take-append-drop i (slots b)))
    ∙ seek_below e b n (hash_of e n) 0 0 (take i (slots b)) (drop i (slots b)) p ∙ ap (λ (k : ℕ). seek e b n (hash_of e n) k 0 (drop i (slots b))) l)

-- the search ends where the hashes are above
seek_above : (e : Edition) (b n : List ℕ) (h k c : ℕ) (vs : List Slot) → all_from (suc h) vs ≡ true → seek e b n h k c vs ≡ record { hit = false; index = k + length vs; at = 0; compared = c }
unfolding seek all_from
seek_above e b n h k c [] p = rw add-zero
seek_above e b n h k c (s ∷ vs) p =
    let l : suc h ≤ s.hash = leb-true (suc h) s.hash (every_head (λ s. leb (suc h) s.hash) s vs p) in
    let x : eqb s.hash h ≡ false = ne_eqb s.hash h (λ (z : s.hash ≡ h). omega arith) in
    let y : candidate h s ≡ false = by_cases (is_live s) (λ w. rw (w, x)) (λ w. rw w) in
    rw (y, add-suc, ← suc-add) (seek_above e b n h (suc k) c vs (every_tail (λ s. leb (suc h) s.hash) s vs p))

-- ---- an accepted block

-- a slice of bytes that the test has passed
pub ready_of : (e : Edition) (b : List ℕ) (n : ℕ) → ((i : ℕ) → byte i b < 256) → n ≡ verdict e b → n ≡ 0 → Ready e b
ready_of e b n h v z = record { are_bytes = bytes_all b h; ok = sym v ∙ z }

pub tiled : (e : Edition) (b : List ℕ) → Ready e b → Tiled e b
unfolding size_ok
tiled e b r =
    let p : Passed e b = passed e b r.ok in
    record { are_bytes = r.are_bytes; short = block_bound (length b) p.size; span = p.span; wholes = tile_whole e b p.tile }

pub stale_within : (e : Edition) (b : List ℕ) → Ready e b → stale_of b ≤ count_of b
stale_within e b r = stale_most e b (tiled e b r)

pub length_slots : (e : Edition) (b : List ℕ) → Ready e b → length (slots b) ≡ count_of b
length_slots e b r = let t : Tiled e b = tiled e b r in slots_count e b t.are_bytes t.span t.wholes

pub ordered : (e : Edition) (b : List ℕ) → Sane e → Ready e b → From 0 (slots b)
ordered e b sane r = (good_of e sane b r.are_bytes r.ok).index.order

-- a live slot's entry
pub record Owned (e : Edition) (b : List ℕ) (t : Tiled e b) (o : ℕ) : Type 0 where
  pub before : List Rec
  pub entry : Rec
  pub behind : List Rec
  pub at_it : Here e b t before entry behind o
  pub no_gap : is_gap entry ≡ false

pub owned : (e : Edition) (b : List ℕ) (sane : Sane e) (r : Ready e b) (i : ℕ) (s : Slot) (ts : List Slot) → drop i (slots b) ≡ s ∷ ts → is_live s ≡ true
    → Owned e b (tiled e b r) (8 * s.addr)
owned e b sane r i s ts q l =
    let es : List Rec = entries (records e b) in
    let w : slots b ≡ take i (slots b) ++ s ∷ ts = sym (take-append-drop i (slots b)) ∙ ap (λ (m : List Slot). take i (slots b) ++ m) q in
    let o : Owner e (entries (records e b)) s =
    owner e (entries (records e b)) (take i (slots b)) s ts (stale_of b) (subst (λ (m : List Slot). Indexed e (entries (records e b)) m (stale_of b)) w (good_of e sane b r.are_bytes r.ok).index) (apart_of e sane b r.are_bytes r.ok) l in
    let t : Split (entries (records e b)) = o.split in
    let f : FoundIn is_entry (records e b) t.before t.here t.behind = keep_find is_entry (records e b) t.before t.here t.behind t.is in
    let y : Rec = t.here in
    let off : 8 * addr_of t.here ≡ t.here.off =
    eqb-true (8 * addr_of t.here) t.here.off (every_at (λ r. eqb (8 * addr_of r) r.off) t.before t.here t.behind (rw t.is at (reads_of e sane b r.are_bytes r.ok).eights)) in
    let hr : Here e b (tiled e b r) f.before t.here f.behind (e.header + length (join f.before)) =
    here e b (tiled e b r) f.before t.here f.behind (e.header + length (join f.before)) f.is refl in
    let place : e.header + length (join f.before) ≡ 8 * s.addr = sym hr.off_is ∙ sym off ∙ ap (λ (x : ℕ). 8 * x) o.addr_is in
    record {
      before = f.before;
      entry = t.here;
      behind = f.behind;
      at_it = here e b (tiled e b r) f.before t.here f.behind (8 * s.addr) f.is place;
      no_gap = not-true (is_gap t.here) f.passes;
    }

-- its size is what its name's length says, and it lies in the data
pub owned_size : (e : Edition) (b : List ℕ) (t : Tiled e b) (o : ℕ) (w : Owned e b t o) → size w.entry ≡ entry_size e (get_or b (o + 8) 0)
owned_size e b t o w = w.at_it.says_is ∙ says_entry e b o (sym w.at_it.gap_is ∙ w.no_gap)

pub name_inside : (e : Edition) (b : List ℕ) (t : Tiled e b) (o : ℕ) → Owned e b t o → o + 11 + get_or b (o + 8) 0 ≤ data_end b
name_inside e b t o w = omega (arith, owned_size e b t o w, entry_size_least e (get_or b (o + 8) 0), w.at_it.fits)

-- ---- the run of equal hashes

-- the names of the slots before i are compared, c of them; the search goes on at i
pub record Run (e : Edition) (b n : List ℕ) (i c : ℕ) : Type 0 where
  pub same : seek e b n (hash_of e n) i c (drop i (slots b)) ≡ sought e b n
  pub not_below : all_from (hash_of e n) (drop i (slots b)) ≡ true
  pub few : c ≤ i

seek_step : (e : Edition) (b n : List ℕ) (h k c : ℕ) (s : Slot) (ss : List Slot)
    → seek e b n h k c (s ∷ ss) ≡ cond (candidate h s && same_name e n (name_at b (8 * s.addr))) (record { hit = true; index = k; at = 8 * s.addr; compared = suc c }) (seek e b n h (suc k) (step_if (candidate h s) c) ss)
unfolding seek
seek_step e b n h k c s ss = refl

pub all_tail : (h : ℕ) (s : Slot) (ss : List Slot) → all_from h (s ∷ ss) ≡ true → all_from h ss ≡ true
unfolding all_from
all_tail h s ss p = every_tail (λ s. leb h s.hash) s ss p

all_head : (h : ℕ) (s : Slot) (ss : List Slot) → all_from h (s ∷ ss) ≡ true → h ≤ s.hash
unfolding all_from
all_head h s ss p = leb-true h s.hash (every_head (λ s. leb h s.hash) s ss p)

module _ (e : Edition) (b n : List ℕ) (i c : ℕ) (w : Run e b n i c) where
  pub run_end : (k : ℕ) → length (slots b) ≡ k → k ≤ i → i ≤ k → sought e b n ≡ record { hit = false; index = k; at = 0; compared = c }
  unfolding seek
  run_end k l p q =
      let none : drop i (slots b) ≡ [] = drop_of_length-le (slots b) {i = i} (omega arith) in
      let ik : i ≡ k = omega arith in
      sym w.same ∙ rw none (rw ik)

  module _ (s : Slot) (q : drop i (slots b) ≡ s ∷ drop (i + 1) (slots b)) where
    on : seek e b n (hash_of e n) i c (s ∷ drop (i + 1) (slots b)) ≡ sought e b n
    on = ap (seek e b n (hash_of e n) i c) (sym q) ∙ w.same

    from_here : all_from (hash_of e n) (s ∷ drop (i + 1) (slots b)) ≡ true
    from_here = ap (all_from (hash_of e n)) (sym q) ∙ w.not_below

    -- another hash: it is above, and so are those behind it
    pub run_other : (k : ℕ) → From 0 (slots b) → length (slots b) ≡ k → i < k → (s.hash ≡ hash_of e n → ⊥) → sought e b n ≡ record { hit = false; index = k; at = 0; compared = c }
    run_other k f l lt d =
        let g : hash_of e n < s.hash = above (hash_of e n) s.hash (all_head (hash_of e n) s (drop (i + 1) (slots b)) from_here) d in
        let a : all_from (suc (hash_of e n)) (drop i (slots b)) ≡ true = go_left (suc (hash_of e n)) i (slots b) s (drop (i + 1) (slots b)) f q g in
        let p : i + length (drop i (slots b)) ≡ k = simp length-drop (omega arith) in
        sym w.same ∙ seek_above e b n (hash_of e n) i c (drop i (slots b)) a ∙ ap (λ (m : ℕ). record { hit = false; index = m; at = 0; compared = c }) p
      where
        above : (x y : ℕ) → x ≤ y → (y ≡ x → ⊥) → x < y
        above x y h f = by_cases (ltb x y) (λ z. ltb-true x y z) (λ z. absurd (f (omega (arith, ltb-false x y z))))

    pub run_stale : s.addr ≡ 0 → Run e b n (i + 1) c
    run_stale z =
        let y : candidate (hash_of e n) s ≡ false = rw (eq-eqb s.addr 0 z) in
        let st : seek e b n (hash_of e n) i c (s ∷ drop (i + 1) (slots b)) ≡ seek e b n (hash_of e n) (suc i) c (drop (i + 1) (slots b)) =
        seek_step e b n (hash_of e n) i c s (drop (i + 1) (slots b)) ∙ rw y in
        record {
          same = ap (λ (m : ℕ). seek e b n (hash_of e n) m c (drop (i + 1) (slots b))) (add-one i) ∙ sym st ∙ on;
          not_below = all_tail (hash_of e n) s (drop (i + 1) (slots b)) from_here;
          few = omega (arith, w.few);
        }

    module _ (live : s.addr ≡ 0 → ⊥) (h : s.hash ≡ hash_of e n) where
      is_candidate : candidate (hash_of e n) s ≡ true
      is_candidate = rw (ne_eqb s.addr 0 live, eq-eqb s.hash (hash_of e n) h)

      pub run_differs : same_name e n (name_at b (8 * s.addr)) ≡ false → Run e b n (i + 1) (c + 1)
      run_differs d =
          let st : seek e b n (hash_of e n) i c (s ∷ drop (i + 1) (slots b)) ≡ seek e b n (hash_of e n) (suc i) (suc c) (drop (i + 1) (slots b)) =
          seek_step e b n (hash_of e n) i c s (drop (i + 1) (slots b)) ∙ rw (is_candidate, d) in
          record {
            same = ap₂ (λ (m d : ℕ). seek e b n (hash_of e n) m d (drop (i + 1) (slots b))) (add-one i) (add-one c) ∙ sym st ∙ on;
            not_below = all_tail (hash_of e n) s (drop (i + 1) (slots b)) from_here;
            few = omega (arith, w.few);
          }

      pub run_hit : same_name e n (name_at b (8 * s.addr)) ≡ true → sought e b n ≡ record { hit = true; index = i; at = 8 * s.addr; compared = c + 1 }
      run_hit d =
          sym on ∙ seek_step e b n (hash_of e n) i c s (drop (i + 1) (slots b)) ∙ rw (is_candidate, d) (ap (λ (m : ℕ). record { hit = true; index = i; at = 8 * s.addr; compared = m }) (sym (add-one c)))

-- ---- as the code reads slots

module _ (e : Edition) (b : List ℕ) (sane : Sane e) (r : Ready e b) where
  -- the index lies in the block
  pub slots_room : (data_end b + 8 * count_of b + 8 ≡ length b) × (length b ≤ 65536)
  slots_room = (end_fits e b (tiled e b r), (tiled e b r).short)

  pub search_start : (h k : ℕ) → k ≡ count_of b → (all_below h (take 0 (slots b)) ≡ true) × (all_from h (drop k (slots b)) ≡ true)
  unfolding all_below all_from
  search_start h k q = (refl, ap (every (λ s. leb h s.hash)) (drop_of_length-le (slots b) {i = k} (omega (arith, length_slots e b r))))

  pub turn_left : (h end m x : ℕ) → end ≡ data_end b → m < count_of b → x ≡ field (end + 8 * m) 4 b → h ≤ x → all_from h (drop m (slots b)) ≡ true
  turn_left h end m x p l q g =
      let v : x ≡ field (data_end b + 8 * m) 4 b = q ∙ ap (λ (k : ℕ). field (k + 8 * m) 4 b) p in
      go_left h m (slots b) _ _ (ordered e b sane r) (slot_at b m l) (subst (λ (z : ℕ). h ≤ z) v g)

  pub turn_right : (h end m x : ℕ) → end ≡ data_end b → m < count_of b → x ≡ field (end + 8 * m) 4 b → x < h → all_below h (take (m + 1) (slots b)) ≡ true
  turn_right h end m x p l q g =
      let v : x ≡ field (data_end b + 8 * m) 4 b = q ∙ ap (λ (k : ℕ). field (k + 8 * m) 4 b) p in
      go_right h m (slots b) _ _ (ordered e b sane r) (slot_at b m l) (subst (λ (z : ℕ). z < h) v g)

  -- slot i, from the two numbers read
  pub slot_read : (end i x a : ℕ) → end ≡ data_end b → i < count_of b → x ≡ field (end + 8 * i) 4 b → a ≡ field (end + 8 * i + 4) 4 b → drop i (slots b) ≡ slot x a ∷ drop (i + 1) (slots b)
  slot_read end i x a p l q s = rw (q, s, p) (slot_at b i l)

  pub live_inside : (i x a : ℕ) → drop i (slots b) ≡ slot x a ∷ drop (i + 1) (slots b) → (a ≡ 0 → ⊥) → 8 * a + 11 + get_or b (8 * a + 8) 0 ≤ data_end b
  live_inside i x a q n = name_inside e b (tiled e b r) (8 * a) (owned e b sane r i (slot x a) (drop (i + 1) (slots b)) q (rw (ne_eqb a 0 n)))

  pub run_start : (n : List ℕ) (i h : ℕ) → h ≡ hash_of e n → i ≤ count_of b → all_below h (take i (slots b)) ≡ true → all_from h (drop i (slots b)) ≡ true → Run e b n i 0
  run_start n i h p l q s =
      record {
        same = seek_from e b n i (omega (arith, length_slots e b r)) (rw p at q);
        not_below = rw p at s;
        few = omega arith;
      }
