-- A search of the slots finds a name exactly if an entry has it.
-- Assumes nothing.
use Prim.Native.Nat.{ℕ, zero, suc, ◌+◌, ◌*◌, ◌≤◌, ◌<◌}
use native.Mathlib.Nat.{add-zero}
use native.Mathlib.Omega.{arith}
use mathlib.Core.Bool.{Bool, true, false, not, cond, false≢true}
use mathlib.Core.Path.{◌≡◌, refl, sym, ◌∙◌, ap, subst}
use mathlib.Core.List.{List, [], ◌∷◌, ◌++◌, map}
use lib.Dec.{eqb}
use lib.ListN.{length}
use borrow.Author.Tests.{eqb-true, eqb-false, eq-eqb}
use Rattle.name.proofs.Same.{same_name_hash}
use Rattle.be.specs.Lists.{every, some_of, tally}
use Rattle.edition.specs.declared.Edition.{Edition}
use Rattle.name.specs.Name.{hash_of, same_name}
use Rattle.dir_block_rules.specs.Record.{Rec, name}
use Rattle.dir_block_rules.specs.Block.{Slot, is_live}
use Rattle.dir_block_rules.specs.Verdict.{has_slot}
use Rattle.dir_block_rules.specs.Lookup.{Sought, seek, candidate, match, step_if, name_at}
use Rattle.be.proofs.Bools.{and_left, and_right, and_both, by_cases, clash}
use Rattle.dir_block_rules.proofs.SlotCounts.{Apart, at_addr, tally_le}
use Rattle.dir_block_rules.proofs.IndexedEntries.{Indexed, Slotted, slotted, addr_of, at_both, no_stray}
use Rattle.be.proofs.Splits.{tally_mid, some_none, Split, some_split, some_at, every_at, tally_split, every_map}
use Rattle.dir_block_rules.proofs.RecordPlaces.{apart_pos}

-- a name is compared at live slots only, and the search ends at that name only
candidate_live : (h : ℕ) (s : Slot) → candidate h s ≡ true → is_live s ≡ true
candidate_live h s q = and_left (is_live s) (eqb s.hash h) q

match_candidate : (e : Edition) (b n : List ℕ) (h : ℕ) (s : Slot) → match e b n h s ≡ true → candidate h s ≡ true
match_candidate e b n h s q = and_left (candidate h s) _ q

match_name : (e : Edition) (b n : List ℕ) (h : ℕ) (s : Slot) → match e b n h s ≡ true → same_name e n (name_at b (8 * s.addr)) ≡ true
match_name e b n h s q = and_right (candidate h s) (same_name e n (name_at b (8 * s.addr))) q

-- it finds something exactly if some slot passes
pub seek_hit : (e : Edition) (b n : List ℕ) (h k c : ℕ) (ss : List Slot) → (seek e b n h k c ss).hit ≡ some_of (match e b n h) ss
unfolding seek
seek_hit e b n h k c [] = refl
seek_hit e b n h k c (s ∷ ss) =
    by_cases (match e b n h s)
    (λ q. rw q refl)
    (λ q. rw q (seek_hit e b n h (suc k) (step_if (candidate h s) c) ss))

-- what it finds: the first such slot
pub record First (e : Edition) (b n : List ℕ) (h k : ℕ) (ss : List Slot) (f : Sought) : Type 0 where
  pub split : Split ss
  pub matches : match e b n h split.here ≡ true
  pub index_is : f.index ≡ k + length split.before
  pub at_is : f.at ≡ 8 * split.here.addr

pub seek_first : (e : Edition) (b n : List ℕ) (h k c : ℕ) (ss : List Slot) → some_of (match e b n h) ss ≡ true
    → First e b n h k ss (seek e b n h k c ss)
unfolding seek
seek_first e b n h k c [] p = absurd (false≢true p)
seek_first e b n h k c (s ∷ ss) p =
    by_cases (match e b n h s)
    (λ q. rw q (record { split = record { before = []; here = s; behind = ss; is = refl }; matches = q; index_is = sym (add-zero k); at_is = refl }))
    (λ q. let r : First e b n h (suc k) ss (seek e b n h (suc k) (step_if (candidate h s) c) ss) =
    seek_first e b n h (suc k) (step_if (candidate h s) c) ss (rw q at p) in
    rw q (record {
      split = record { before = s ∷ r.split.before; here = r.split.here; behind = r.split.behind; is = ap (λ (l : List Slot). s ∷ l) r.split.is };
      matches = r.matches;
      index_is = omega (arith, r.index_is);
      at_is = r.at_is;
    }))

pos_of_ne : (n : ℕ) → (n ≡ 0 → ⊥) → 0 < n
pos_of_ne zero f = absurd (f refl)
pos_of_ne (suc n) f = omega arith

-- every live slot is an entry's, with its hash
pub record Owner (e : Edition) (es : List Rec) (s : Slot) : Type 0 where
  pub split : Split es
  pub addr_is : addr_of split.here ≡ s.addr
  pub hash_is : hash_of e (name split.here) ≡ s.hash

pub owner : (e : Edition) (es : List Rec) (us : List Slot) (s : Slot) (vs : List Slot) (n : ℕ) → Indexed e es (us ++ s ∷ vs) n
    → Apart (map addr_of es) → is_live s ≡ true → Owner e es s
owner e es us s vs n i a l = by_cases (some_of (λ r. eqb s.addr (addr_of r)) es) found none
  where
    live : 0 < s.addr
    live = by_cases (eqb s.addr 0) (λ z. absurd (clash l (rw z))) (λ z. pos_of_ne s.addr (eqb-false s.addr 0 z))

    here : (c : ℕ) → s.addr ≡ c → tally (at_addr c) (us ++ s ∷ vs) ≡ 1 + tally (at_addr c) (us ++ vs)
    here c q = tally_mid (at_addr c) us s vs ∙ rw (eq-eqb s.addr c q)

    none : some_of (λ r. eqb s.addr (addr_of r)) es ≡ false → Owner e es s
    none q =
        let d : every (λ c. not (eqb s.addr c)) (map addr_of es) ≡ true =
        every_map (λ c. not (eqb s.addr c)) addr_of es ∙ some_none (λ r. eqb s.addr (addr_of r)) es q in
        let z : tally (at_addr s.addr) (us ++ s ∷ vs) ≡ 0 = no_stray e es (us ++ s ∷ vs) n s.addr i (live, d, a) in
        absurd (omega (arith, z, here s.addr refl))

    found : some_of (λ r. eqb s.addr (addr_of r)) es ≡ true → Owner e es s
    found q =
        let p : (t : Split es) × (eqb s.addr (addr_of t.here) ≡ true) = some_split (λ r. eqb s.addr (addr_of r)) es q in
        let t : Split es = p.0 in
        let r : Rec = p.0.here in
        let g : ℕ = hash_of e (name r) in
        let same-addr : s.addr ≡ addr_of r = eqb-true s.addr (addr_of r) p.1 in
        let o : Slotted e (us ++ s ∷ vs) r =
        slotted e (us ++ s ∷ vs) r (every_at (has_slot e (us ++ s ∷ vs)) t.before r t.behind (rw t.is at i.each)) in
        let both : tally (at_both (addr_of r) g) (us ++ s ∷ vs) ≡ cond (at_both (addr_of r) g s) 1 0 + tally (at_both (addr_of r) g) (us ++ vs) =
        tally_mid (at_both (addr_of r) g) us s vs in
        let few : tally (at_both (addr_of r) g) (us ++ vs) ≤ tally (at_addr (addr_of r)) (us ++ vs) =
        tally_le (at_both (addr_of r) g) (at_addr (addr_of r)) (λ x y. and_left (eqb x.addr (addr_of r)) (eqb x.hash g) y) (us ++ vs) in
        let hit : at_both (addr_of r) g s ≡ true =
        by_cases (at_both (addr_of r) g s) (λ y. y)
        (λ y. let both' : tally (at_both (addr_of r) g) (us ++ s ∷ vs) ≡ 0 + tally (at_both (addr_of r) g) (us ++ vs) = rw y at both in
        absurd (omega (arith, both', few, here (addr_of r) same-addr, o.by_addr, o.by_both))) in
        record { split = t; addr_is = sym same-addr; hash_is = sym (eqb-true s.hash g (and_right (eqb s.addr (addr_of r)) (eqb s.hash g) hit)) }

-- a block whose index is right, and that reads an entry's name at the entry's offset
pub record Reads (e : Edition) (b : List ℕ) (es : List Rec) : Type 0 where
  pub eights : every (λ r. eqb (8 * addr_of r) r.off) es ≡ true
  pub named : (t : Split es) → name_at b t.here.off ≡ name t.here

module _ (e : Edition) (b n : List ℕ) (es : List Rec) (ss : List Slot) (m : ℕ) (i : Indexed e es ss m) (a : Apart (map addr_of es)) (d : Reads e b es) where
  pub read_at : (t : Split es) → name_at b (8 * addr_of t.here) ≡ name t.here
  read_at t =
      ap (λ (o : ℕ). name_at b o) (eqb-true (8 * addr_of t.here) t.here.off (every_at (λ r. eqb (8 * addr_of r) r.off) t.before t.here t.behind (rw t.is at d.eights)))
      ∙ d.named t

  -- a slot that ends the search is an entry's of that name
  pub match_owner : (t : Split ss) → match e b n (hash_of e n) t.here ≡ true → (o : Owner e es t.here) × (same_name e n (name o.split.here) ≡ true)
  match_owner t h =
      let s : Slot = t.here in
      let l : is_live s ≡ true = candidate_live (hash_of e n) s (match_candidate e b n (hash_of e n) s h) in
      let o : Owner e es s = owner e es t.before s t.behind m (rw t.is at i) a l in
      let q : same_name e n (name_at b (8 * s.addr)) ≡ true = match_name e b n (hash_of e n) s h in
      (o, subst (λ (l : List ℕ). same_name e n l ≡ true) (ap (λ (x : ℕ). name_at b (8 * x)) (sym o.addr_is) ∙ read_at o.split) q)

  -- an entry of that name has a slot that ends the search
  pub entry_match : (t : Split es) → same_name e n (name t.here) ≡ true → some_of (match e b n (hash_of e n)) ss ≡ true
  entry_match t h =
      let r : Rec = t.here in
      let o : Slotted e ss r = slotted e ss r (every_at (has_slot e ss) t.before r t.behind (rw t.is at i.each)) in
      let u : (u : Split ss) × (at_both (addr_of r) (hash_of e (name r)) u.here ≡ true) =
      tally_split (at_both (addr_of r) (hash_of e (name r))) ss (omega (arith, o.by_both)) in
      let s : Slot = u.0.here in
      let ad : s.addr ≡ addr_of r = eqb-true s.addr (addr_of r) (and_left (eqb s.addr (addr_of r)) (eqb s.hash (hash_of e (name r))) u.1) in
      let hs : s.hash ≡ hash_of e (name r) = eqb-true s.hash (hash_of e (name r)) (and_right (eqb s.addr (addr_of r)) (eqb s.hash (hash_of e (name r))) u.1) in
      let lv : is_live s ≡ true =
      ap (λ (x : ℕ). not (eqb x 0)) ad ∙ every_at (λ r. not (eqb (addr_of r) 0)) t.before r t.behind (rw t.is at (apart_pos es a)) in
      let sn : same_name e n (name_at b (8 * s.addr)) ≡ true =
      ap (same_name e n) (ap (λ (x : ℕ). name_at b (8 * x)) ad ∙ read_at t) ∙ h in
      let mt : match e b n (hash_of e n) s ≡ true =
      and_both (candidate (hash_of e n) s) (same_name e n (name_at b (8 * s.addr)))
      (and_both (is_live s) (eqb s.hash (hash_of e n)) lv (eq-eqb s.hash (hash_of e n) (hs ∙ sym (same_name_hash e n (name r) h)))) sn in
      ap (some_of (match e b n (hash_of e n))) u.0.is ∙ some_at (match e b n (hash_of e n)) u.0.before s u.0.behind mt

  -- found exactly if an entry has the name
  pub hit_is : some_of (match e b n (hash_of e n)) ss ≡ some_of (λ r. same_name e n (name r)) es
  hit_is = by_cases (some_of (match e b n (hash_of e n)) ss) hit miss
    where
      nm : Rec → Bool
      nm r = same_name e n (name r)

      hit : some_of (match e b n (hash_of e n)) ss ≡ true → some_of (match e b n (hash_of e n)) ss ≡ some_of (λ r. same_name e n (name r)) es
      hit h =
          let t : (t : Split ss) × (match e b n (hash_of e n) t.here ≡ true) = some_split (match e b n (hash_of e n)) ss h in
          let o : (o : Owner e es t.0.here) × (same_name e n (name o.split.here) ≡ true) = match_owner t.0 t.1 in
          h ∙ sym (ap (some_of (λ r. same_name e n (name r))) o.0.split.is
          ∙ some_at (λ r. same_name e n (name r)) o.0.split.before o.0.split.here o.0.split.behind o.1)

      miss : some_of (match e b n (hash_of e n)) ss ≡ false → some_of (match e b n (hash_of e n)) ss ≡ some_of (λ r. same_name e n (name r)) es
      miss h =
          by_cases (some_of (λ r. same_name e n (name r)) es)
          (λ q. let t : (t : Split es) × (same_name e n (name t.here) ≡ true) = some_split (λ r. same_name e n (name r)) es q in
          absurd (clash (entry_match t.0 t.1) h))
          (λ q. h ∙ sym q)
