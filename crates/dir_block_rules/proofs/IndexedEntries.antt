-- INDEX, by counts; and it stays right with one entry and its slot more, by whichever slots the room rule keeps.
-- Assumes nothing.
use Prim.Native.Nat.{ℕ, ◌+◌, ◌-◌, ◌/◌, ◌<◌}
use native.Mathlib.Omega.{arith}
use mathlib.Core.Bool.{Bool, true, false, not, ◌&&◌, cond}
use mathlib.Core.Path.{◌≡◌, refl, sym, ◌∙◌, ap}
use mathlib.Core.List.{List, [], ◌∷◌, ◌++◌, map}
use lib.Dec.{eqb}
use lib.ListN.{length}
use borrow.Author.Tests.{eqb-true, eq-eqb, ne_eqb, not-true}
use Rattle.be.specs.Lists.{every, some_of, tally, total, keep, without_first}
use Rattle.edition.specs.declared.Edition.{Edition}
use Rattle.name.specs.Name.{hash_of}
use Rattle.dir_block_rules.specs.Record.{Rec, name, entries}
use Rattle.dir_block_rules.specs.Block.{Slot, slot, is_stale, is_live}
use Rattle.dir_block_rules.specs.Verdict.{index_ok, has_slot, stale_or_owned, rising}
use Rattle.dir_block_rules.specs.Change.{insert_slot}
use Rattle.be.proofs.Bools.{and_left, and_right, and_both, and_true, and_false, by_cases, clash, every_head, every_tail, every_cons}
use Rattle.dir_block_rules.proofs.SlotOrder.{From, rising_from, from_rising, insert_from, tally_insert, drop_first_from, keep_from}
use Rattle.dir_block_rules.proofs.SlotCounts.{Apart, at_addr, pigeon, counted, hit_live, live_all, tally_le}
use Rattle.be.proofs.Splits.{every_mid, some_map, length_mid}

-- what index_ok says of the entries as
pub record Indexed (e : Edition) (es : List Rec) (ss : List Slot) (n : ℕ) : Type 0 where
  pub order : From 0 ss
  pub stales : tally is_stale ss ≡ n
  pub lives : tally is_live ss ≡ length es
  pub each : every (has_slot e ss) es ≡ true

-- addresses of entries
abbrev pub addr_of : Rec → ℕ
addr_of r = r.off / 8

-- every entry has its slot, so the slots at the entries' addresses are as many as the entries
each_one : (e : Edition) (es : List Rec) (ss : List Slot) → every (has_slot e ss) es ≡ true
    → total (λ a. tally (at_addr a) ss) (map addr_of es) ≡ length es
each_one e [] ss h = refl
each_one e (r ∷ es) ss h =
    let q : has_slot e ss r ≡ true = every_head (has_slot e ss) r es h in
    let one : tally (at_addr (addr_of r)) ss ≡ 1 =
    eqb-true (tally (at_addr (addr_of r)) ss) 1
    (and_left (eqb (tally (at_addr (addr_of r)) ss) 1) (eqb (tally (λ s. eqb s.addr (r.off / 8) && eqb s.hash (hash_of e (name r))) ss) 1) q) in
    rw (one, each_one e es ss (every_tail (has_slot e ss) r es h)) (omega arith)

pick : (a x y z : Bool) → (y ≡ true → x ≡ z) → ((a && y) && x) ≡ ((a && z) && y)
pick false x y z h = refl
pick true x true z h = h refl ∙ sym (and_true z)
pick true x false z h = sym (and_false z)

-- no other slots than the entries' own: the live slots are as many as the entries
pub index_counts : (e : Edition) (rs : List Rec) (ss : List Slot) (n : ℕ) → Apart (map addr_of (entries rs))
    → index_ok e rs ss n ≡ (rising ss && eqb (tally is_stale ss) n && eqb (tally is_live ss) (length (entries rs)) && every (has_slot e ss) (entries rs))
unfolding index_ok
index_counts e rs ss n a =
    let es : List Rec = entries rs in
    let own : Slot → Bool = λ s. some_of (λ r. eqb s.addr (r.off / 8)) es in
    let same : (s : Slot) → some_of (λ c. eqb s.addr c) (map addr_of es) ≡ own s = λ s. some_map (λ c. eqb s.addr c) addr_of es in
    pick (rising ss && eqb (tally is_stale ss) n) (every (stale_or_owned es) ss) (every (has_slot e ss) es) (eqb (tally is_live ss) (length es))
    (λ h. live_all own (λ s q. hit_live (map addr_of es) a s (same s ∙ q)) ss
    ∙ ap (eqb (tally is_live ss)) (sym (counted own (map addr_of es) a same ss) ∙ each_one e es ss h))

pub indexed : (e : Edition) (rs : List Rec) (ss : List Slot) (n : ℕ) → Apart (map addr_of (entries rs)) → index_ok e rs ss n ≡ true
    → Indexed e (entries rs) ss n
indexed e rs ss n ap' h' =
    let a : Bool = rising ss in
    let b : Bool = eqb (tally is_stale ss) n in
    let c : Bool = eqb (tally is_live ss) (length (entries rs)) in
    let d : Bool = every (has_slot e ss) (entries rs) in
    let h : (a && b && c && d) ≡ true = sym (index_counts e rs ss n ap') ∙ h' in
    record {
      order = rising_from ss (and_left a b (and_left (a && b) c (and_left (a && b && c) d h)));
      stales = eqb-true (tally is_stale ss) n (and_right a b (and_left (a && b) c (and_left (a && b && c) d h)));
      lives = eqb-true (tally is_live ss) (length (entries rs)) (and_right (a && b) c (and_left (a && b && c) d h));
      each = and_right (a && b && c) d h;
    }

pub →indexed : (e : Edition) (rs : List Rec) (ss : List Slot) (n : ℕ) → Apart (map addr_of (entries rs)) → Indexed e (entries rs) ss n
    → index_ok e rs ss n ≡ true
→indexed e rs ss n ap' i =
    let a : Bool = rising ss in
    let b : Bool = eqb (tally is_stale ss) n in
    let c : Bool = eqb (tally is_live ss) (length (entries rs)) in
    let d : Bool = every (has_slot e ss) (entries rs) in
    index_counts e rs ss n ap'
    ∙ and_both (a && b && c) d
    (and_both (a && b) c (and_both a b (from_rising 0 ss i.order) (eq-eqb (tally is_stale ss) n i.stales)) (eq-eqb (tally is_live ss) (length (entries rs)) i.lives))
    i.each

-- no slot stands at an address that is no entry's
pub no_stray : (e : Edition) (es : List Rec) (ss : List Slot) (n c : ℕ) → Indexed e es ss n → Apart (c ∷ map addr_of es)
    → tally (at_addr c) ss ≡ 0
no_stray e es ss n c i a =
    omega (arith, pigeon ss (c ∷ map addr_of es) a, each_one e es ss i.each, i.lives)

-- slots that lost stale ones only: as many of each live kind
pub record Kept (ss ts : List Slot) (m : ℕ) : Type 0 where
  pub order : From 0 ss → From 0 ts
  pub stales : tally is_stale ts ≡ m
  pub same_live : (p : Slot → Bool) → ((s : Slot) → p s ≡ true → is_live s ≡ true) → tally p ts ≡ tally p ss

-- a slot at an address, with a hash
abbrev pub at_both : ℕ → ℕ → Slot → Bool
at_both a h s = eqb s.addr a && eqb s.hash h

pub record Slotted (e : Edition) (ss : List Slot) (r : Rec) : Type 0 where
  pub by_addr : tally (at_addr (addr_of r)) ss ≡ 1
  pub by_both : tally (at_both (addr_of r) (hash_of e (name r))) ss ≡ 1

pub slotted : (e : Edition) (ss : List Slot) (r : Rec) → has_slot e ss r ≡ true → Slotted e ss r
slotted e ss r h =
    let a : ℕ = tally (at_addr (addr_of r)) ss in
    let b : ℕ = tally (at_both (addr_of r) (hash_of e (name r))) ss in
    record { by_addr = eqb-true a 1 (and_left (eqb a 1) (eqb b 1) h); by_both = eqb-true b 1 (and_right (eqb a 1) (eqb b 1) h) }

pub →slotted : (e : Edition) (ss : List Slot) (r : Rec) → Slotted e ss r → has_slot e ss r ≡ true
→slotted e ss r h =
    let a : ℕ = tally (at_addr (addr_of r)) ss in
    let b : ℕ = tally (at_both (addr_of r) (hash_of e (name r))) ss in
    and_both (eqb a 1) (eqb b 1) (eq-eqb a 1 h.by_addr) (eq-eqb b 1 h.by_both)

addr_live : (a : ℕ) → 0 < a → (s : Slot) → at_addr a s ≡ true → is_live s ≡ true
addr_live a h s q = rw (ne_eqb s.addr 0 (λ (z : s.addr ≡ 0). omega (arith, eqb-true s.addr a q)))

both_live : (a g : ℕ) → 0 < a → (s : Slot) → at_both a g s ≡ true → is_live s ≡ true
both_live a g h s q = addr_live a h s (and_left (eqb s.addr a) (eqb s.hash g) q)

-- a new entry x with its new slot: the index is right again
module _ (e : Edition) (x : Rec) (ss ts : List Slot) (m : ℕ) (k : Kept ss ts m) where
  abbrev pub slot_of : Slot
  slot_of = slot (hash_of e (name x)) (addr_of x)

  slot_kept : (r : Rec) → has_slot e ss r ≡ true → 0 < addr_of r → eqb (addr_of x) (addr_of r) ≡ false → has_slot e (insert_slot slot_of ts) r ≡ true
  slot_kept r h z d =
      let o : Slotted e ss r = slotted e ss r h in
      →slotted e (insert_slot slot_of ts) r
      (record {
        by_addr = tally_insert (at_addr (addr_of r)) slot_of ts ∙ rw (d, k.same_live (at_addr (addr_of r)) (addr_live (addr_of r) z)) (omega (arith, o.by_addr));
        by_both = tally_insert (at_both (addr_of r) (hash_of e (name r))) slot_of ts
            ∙ rw (d, k.same_live (at_both (addr_of r) (hash_of e (name r))) (both_live (addr_of r) (hash_of e (name r)) z)) (omega (arith, o.by_both));
      })

  each_kept : (es : List Rec) → every (has_slot e ss) es ≡ true → every (λ c. not (eqb (addr_of x) c)) (map addr_of es) ≡ true → Apart (map addr_of es)
      → every (has_slot e (insert_slot slot_of ts)) es ≡ true
  each_kept [] h d a = refl
  each_kept (r ∷ es) h d a =
      every_cons (has_slot e (insert_slot slot_of ts)) r es
      (slot_kept r (every_head (has_slot e ss) r es h) a.0 (not-true (eqb (addr_of x) (addr_of r)) (every_head (λ c. not (eqb (addr_of x) c)) (addr_of r) (map addr_of es) d)))
      (each_kept es (every_tail (has_slot e ss) r es h) (every_tail (λ c. not (eqb (addr_of x) c)) (addr_of r) (map addr_of es) d) a.2)

  slot_new : 0 < addr_of x → tally (at_addr (addr_of x)) ss ≡ 0 → has_slot e (insert_slot slot_of ts) x ≡ true
  slot_new z w =
      let y : eqb (addr_of x) (addr_of x) ≡ true = eq-eqb (addr_of x) (addr_of x) refl in
      let g : eqb (hash_of e (name x)) (hash_of e (name x)) ≡ true = eq-eqb (hash_of e (name x)) (hash_of e (name x)) refl in
      →slotted e (insert_slot slot_of ts) x
      (record {
        by_addr = tally_insert (at_addr (addr_of x)) slot_of ts ∙ rw (y, k.same_live (at_addr (addr_of x)) (addr_live (addr_of x) z)) (omega (arith, w));
        by_both = tally_insert (at_both (addr_of x) (hash_of e (name x))) slot_of ts
            ∙ rw (y, g, k.same_live (at_both (addr_of x) (hash_of e (name x))) (both_live (addr_of x) (hash_of e (name x)) z))
            (omega (
              arith,
              w,
              tally_le (at_both (addr_of x) (hash_of e (name x))) (at_addr (addr_of x))
                  (λ s q. and_left (eqb s.addr (addr_of x)) (eqb s.hash (hash_of e (name x))) q) ss,
            ));
      })

  pub indexed_insert : (xs ys : List Rec) (n : ℕ)
      → Indexed e (xs ++ ys) ss n → Apart (addr_of x ∷ map addr_of (xs ++ ys))
      → Indexed e (xs ++ x ∷ ys) (insert_slot slot_of ts) m
  indexed_insert xs ys n i a =
      let z : eqb (addr_of x) 0 ≡ false = ne_eqb (addr_of x) 0 (λ (q : addr_of x ≡ 0). omega (arith, a.0)) in
      record {
        order = insert_from 0 slot_of ts (omega arith) (k.order i.order);
        stales = tally_insert is_stale slot_of ts ∙ rw z (omega (arith, k.stales));
        lives = tally_insert is_live slot_of ts ∙ rw z (omega (arith, k.same_live is_live (λ s h. h), i.lives, length_mid xs x ys));
        each = every_mid (has_slot e (insert_slot slot_of ts)) xs x ys
            ∙ and_both (has_slot e (insert_slot slot_of ts) x) (every (has_slot e (insert_slot slot_of ts)) (xs ++ ys))
            (slot_new a.0 (no_stray e (xs ++ ys) ss n (addr_of x) i a)) (each_kept (xs ++ ys) i.each a.1 a.2);
      }

-- the slots kept by each case of the room rule
pub kept_all : (ss : List Slot) (n : ℕ) → tally is_stale ss ≡ n → Kept ss ss n
kept_all ss n h = record { order = λ f. f; stales = h; same_live = λ p f. refl }

stale_not : (p : Slot → Bool) → ((s : Slot) → p s ≡ true → is_live s ≡ true) → (s : Slot) → is_stale s ≡ true → p s ≡ false
stale_not p f s h = by_cases (p s) (λ q. absurd (clash (f s q) (rw h))) (λ q. q)

drop_tally : (p : Slot → Bool) → ((s : Slot) → p s ≡ true → is_live s ≡ true) → (ss : List Slot) → tally p (without_first is_stale ss) ≡ tally p ss
drop_tally p f [] = refl
drop_tally p f (s ∷ ss) =
    by_cases (is_stale s)
    (λ h. rw (h, stale_not p f s h) (omega arith))
    (λ h. rw h (ap (λ (n : ℕ). cond (p s) 1 0 + n) (drop_tally p f ss)))

drop_stale : (ss : List Slot) → tally is_stale (without_first is_stale ss) ≡ tally is_stale ss - 1
drop_stale [] = refl
drop_stale (s ∷ ss) = by_cases (is_stale s) (λ h. rw h (omega arith)) (λ h. rw (h, h) (omega (arith, drop_stale ss)))

-- (a) drops the first stale slot
pub kept_less_one : (ss : List Slot) (n : ℕ) → tally is_stale ss ≡ n → Kept ss (without_first is_stale ss) (n - 1)
kept_less_one ss n h = record { order = drop_first_from is_stale 0 ss; stales = rw (← h) (drop_stale ss); same_live = λ p f. drop_tally p f ss }

keep_tally : (p : Slot → Bool) → ((s : Slot) → p s ≡ true → is_live s ≡ true) → (ss : List Slot) → tally p (keep is_live ss) ≡ tally p ss
keep_tally p f [] = refl
keep_tally p f (s ∷ ss) =
    by_cases (is_stale s)
    (λ h. rw (h, stale_not p f s h) (omega (arith, keep_tally p f ss)))
    (λ h. rw h (ap (λ (n : ℕ). cond (p s) 1 0 + n) (keep_tally p f ss)))

keep_stale : (ss : List Slot) → tally is_stale (keep is_live ss) ≡ 0
keep_stale [] = refl
keep_stale (s ∷ ss) = by_cases (is_stale s) (λ h. rw h (keep_stale ss)) (λ h. rw (h, h) (omega (arith, keep_stale ss)))

-- (b) drops all stale slots
pub kept_live : (ss : List Slot) → Kept ss (keep is_live ss) 0
kept_live ss = record { order = keep_from is_live 0 ss; stales = keep_stale ss; same_live = λ p f. keep_tally p f ss }
