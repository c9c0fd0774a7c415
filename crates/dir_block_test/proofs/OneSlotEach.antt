-- INDEX: where the hashes rise and the counts agree, one slot found for each entry is all there is to show.
-- Assumes nothing.
use Prim.Native.Nat.{ℕ, ◌+◌, ◌/◌, ◌≤◌}
use native.Mathlib.Nat.{zero-add}
use native.Mathlib.Omega.{arith}
use mathlib.Core.Bool.{Bool, true, ◌&&◌, false≢true}
use mathlib.Core.Path.{◌≡◌, refl, sym, ◌∙◌, ap, ap₂}
use mathlib.Core.List.{List, [], ◌∷◌, map}
use lib.Dec.{eqb, leb}
use lib.ListN.{length}
use borrow.Author.Tests.{le-leb}
use Rattle.be.specs.Lists.{every, some_of, tally, total}
use Rattle.edition.specs.declared.Edition.{Edition}
use Rattle.name.specs.Name.{hash_of}
use Rattle.dir_block_rules.specs.Record.{Rec, name}
use Rattle.dir_block_rules.specs.Block.{Slot, is_stale, is_live}
use Rattle.dir_block_rules.specs.Verdict.{has_slot, rising}
use Rattle.be.proofs.Bools.{by_cases, and_left, every_head, every_tail, every_cons, clash}
use Rattle.dir_block_rules.proofs.SlotCounts.{Apart, pigeon, at_addr, tally_le}
use Rattle.dir_block_rules.proofs.IndexedEntries.{addr_of, at_both, Slotted, slotted, →slotted}
use Rattle.dir_block_test.specs.Passes.{rising_from, ordered_with, slot_is}

-- the order, as the pass tests it
from_rising : (s : Slot) (ss : List Slot) → rising_from s.hash ss ≡ rising (s ∷ ss)
unfolding rising_from rising
from_rising s [] = refl
from_rising s (u ∷ ss) = ap (λ (t : Bool). leb s.hash u.hash && t) (from_rising u ss)

pub rising_from_is : (ss : List Slot) → rising_from 0 ss ≡ rising ss
unfolding rising_from rising
rising_from_is [] = refl
rising_from_is (s ∷ ss) = rw (le-leb 0 s.hash (omega arith)) (from_rising s ss)

pub ordered_with_is : (m : ℕ) (ss : List Slot) → ordered_with 0 0 m ss ≡ (rising ss && eqb (tally is_stale ss) m)
unfolding ordered_with
ordered_with_is m ss = ap₂ (λ (t : Bool) (k : ℕ). t && eqb k m) (rising_from_is ss) (zero-add (tally is_stale ss))

-- some slot, or at least one
some_tally : (p : Slot → Bool) (ss : List Slot) → some_of p ss ≡ true → 1 ≤ tally p ss
some_tally p [] h = absurd (false≢true h)
some_tally p (s ∷ ss) h = by_cases (p s) (λ q. rw q (omega arith)) (λ q. let i : 1 ≤ tally p ss = some_tally p ss (rw q at h) in rw q (omega arith))

tally_some : (p : Slot → Bool) (ss : List Slot) → 1 ≤ tally p ss → some_of p ss ≡ true
tally_some p [] h = absurd (omega arith)
tally_some p (s ∷ ss) h =
    by_cases (p s) (λ q. rw q) (λ q. let h' : 1 ≤ 0 + tally p ss = rw q at h in rw q (tally_some p ss (omega arith)))

module _ (e : Edition) (ss : List Slot) where
  abbrev found : Rec → Bool
  found r = some_of (slot_is (r.off / 8) (hash_of e (name r))) ss

  abbrev at_its : Rec → ℕ
  at_its r = tally (at_addr (addr_of r)) ss

  found_one : (r : Rec) → found r ≡ true → 1 ≤ at_its r
  found_one r h =
      let b : 1 ≤ tally (at_both (addr_of r) (hash_of e (name r))) ss = some_tally (at_both (addr_of r) (hash_of e (name r))) ss h in
      let c : tally (at_both (addr_of r) (hash_of e (name r))) ss ≤ at_its r =
      tally_le (at_both (addr_of r) (hash_of e (name r))) (at_addr (addr_of r)) (λ s q. and_left _ _ q) ss in
      omega arith

  found_total : (es : List Rec) → every found es ≡ true → length es ≤ total (λ a. tally (at_addr a) ss) (map addr_of es)
  found_total [] h = omega arith
  found_total (r ∷ es) h =
      omega (arith, found_one r (every_head found r es h), found_total es (every_tail found r es h))

  -- as many slots at the entries as entries, so one at each
  found_has : (es : List Rec) → every found es ≡ true → total (λ a. tally (at_addr a) ss) (map addr_of es) ≤ length es
      → every (has_slot e ss) es ≡ true
  found_has [] h t = refl
  found_has (r ∷ es) h t =
      let f : found r ≡ true = every_head found r es h in
      let one : tally (at_addr (addr_of r)) ss ≡ 1 = omega (arith, found_one r f, found_total es (every_tail found r es h)) in
      let low : 1 ≤ tally (at_both (addr_of r) (hash_of e (name r))) ss = some_tally (at_both (addr_of r) (hash_of e (name r))) ss f in
      let top : tally (at_both (addr_of r) (hash_of e (name r))) ss ≤ tally (at_addr (addr_of r)) ss =
      tally_le (at_both (addr_of r) (hash_of e (name r))) (at_addr (addr_of r)) (λ s q. and_left _ _ q) ss in
      every_cons (has_slot e ss) r es (→slotted e ss r (record { by_addr = one; by_both = omega arith }))
      (found_has es (every_tail found r es h) (omega arith))

  has_found : (es : List Rec) → every (has_slot e ss) es ≡ true → every found es ≡ true
  has_found [] h = refl
  has_found (r ∷ es) h =
      let s : Slotted e ss r = slotted e ss r (every_head (has_slot e ss) r es h) in
      every_cons found r es (tally_some (at_both (addr_of r) (hash_of e (name r))) ss (omega (arith, s.by_both))) (has_found es (every_tail (has_slot e ss) r es h))

  pub index_law : (es : List Rec) → Apart (map addr_of es) → tally is_live ss ≡ length es → every (has_slot e ss) es ≡ every found es
  index_law es a l =
      by_cases (every found es)
      (λ q. found_has es q (omega (arith, pigeon ss (map addr_of es) a)) ∙ sym q)
      (λ q. by_cases (every (has_slot e ss) es) (λ p. absurd (clash (has_found es p) q)) (λ p. p ∙ sym q))
