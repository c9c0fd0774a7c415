-- Hashes that never fall stay so, and the new slot stands after all slots with an equal or lower hash.
-- Assumes nothing.
use Prim.Native.Nat.{ℕ, ◌+◌, ◌≤◌, ◌<◌}
use native.Mathlib.Omega.{arith}
use mathlib.Core.Bool.{Bool, true, false, not, cond}
use mathlib.Core.Path.{◌≡◌, refl, ap}
use mathlib.Core.List.{List, [], ◌∷◌, ◌++◌}
use lib.Dec.{leb}
use borrow.Author.Tests.{leb-true, leb-false, le-leb, lt-leb}
use Rattle.be.specs.Lists.{tally, keep, without_first}
use Rattle.dir_block_rules.specs.Block.{Slot}
use Rattle.dir_block_rules.specs.Verdict.{rising}
use Rattle.dir_block_rules.specs.Change.{insert_slot, in_front}
use Rattle.dir_block_rules.specs.Claims.{SlotRight}
use Rattle.be.proofs.Bools.{and_left, and_right, and_both, by_cases}

-- every hash is at least h: what may follow a slot of hash h
abbrev pub From : ℕ → List Slot → Type 0
From h [] = Unit {0}
From h (s ∷ ss) = (h ≤ s.hash) × From s.hash ss

-- rising, as a chain with a lower bound
pub rising→ : (s : Slot) (ss : List Slot) → rising (s ∷ ss) ≡ true → From s.hash ss
unfolding rising
rising→ s [] h = tt
rising→ s (t ∷ ts) h = (leb-true _ _ (and_left _ _ h), rising→ t ts (and_right (leb s.hash t.hash) _ h))

pub →rising : (s : Slot) (ss : List Slot) → From s.hash ss → rising (s ∷ ss) ≡ true
unfolding rising
→rising s [] h = refl
→rising s (t ∷ ts) h = and_both _ _ (le-leb _ _ h.0) (→rising t ts h.1)

pub rising_from : (ss : List Slot) → rising ss ≡ true → From 0 ss
rising_from [] h = tt
rising_from (s ∷ ss) h = (omega arith, rising→ s ss h)

pub from_rising : (h : ℕ) (ss : List Slot) → From h ss → rising ss ≡ true
unfolding rising
from_rising h [] f = refl
from_rising h (s ∷ ss) f = →rising s ss f.1

pub from_le : (g h : ℕ) (ss : List Slot) → g ≤ h → From h ss → From g ss
from_le g h [] l f = tt
from_le g h (s ∷ ss) l f = (omega (arith, f.0), f.1)

-- a slot put after all slots with an equal or lower hash keeps the hashes non-falling
pub insert_from : (h : ℕ) (s : Slot) (ss : List Slot) → h ≤ s.hash → From h ss → From h (insert_slot s ss)
unfolding insert_slot
insert_from h s [] l f = (l, tt)
insert_from h s (t ∷ ts) l f =
    by_cases (in_front s t)
    (λ q. rw q (f.0, insert_from t.hash s ts (omega (arith, leb-true)) f.1))
    (λ q. rw q (l, (omega (arith, leb-false), f.1)))

-- slots taken out leave the rest non-falling
pub drop_first_from : (p : Slot → Bool) (h : ℕ) (ss : List Slot) → From h ss → From h (without_first p ss)
drop_first_from p h [] f = tt
drop_first_from p h (s ∷ ss) f =
    by_cases (p s)
    (λ q. rw q (from_le h s.hash ss f.0 f.1))
    (λ q. rw q (f.0, drop_first_from p s.hash ss f.1))

pub keep_from : (p : Slot → Bool) (h : ℕ) (ss : List Slot) → From h ss → From h (keep p ss)
keep_from p h [] f = tt
keep_from p h (s ∷ ss) f =
    by_cases (p s)
    (λ q. rw q (f.0, keep_from p s.hash ss f.1))
    (λ q. rw q (keep_from p h ss (from_le h s.hash ss f.0 f.1)))

-- how many slots pass a test, after an insert and after the first that passes another is dropped
pub tally_insert : (p : Slot → Bool) (s : Slot) (ss : List Slot) → tally p (insert_slot s ss) ≡ cond (p s) 1 0 + tally p ss
unfolding insert_slot
tally_insert p s [] = refl
tally_insert p s (t ∷ ts) =
    by_cases (in_front s t)
    (λ q. rw q (omega (arith, tally_insert p s ts)))
    (λ q. rw q refl)

-- the new slot stands after all slots with an equal or lower hash
none_lower : (h : ℕ) (s : Slot) (ss : List Slot) → s.hash < h → From h ss → keep (λ t. leb t.hash s.hash) ss ≡ []
none_lower h s [] l f = refl
none_lower h s (t ∷ ts) l f = rw (lt-leb t.hash s.hash (omega (arith, f.0))) (none_lower t.hash s ts (omega (arith, f.0)) f.1)

all_higher : (h : ℕ) (s : Slot) (ss : List Slot) → s.hash < h → From h ss → keep (λ t. not (leb t.hash s.hash)) ss ≡ ss
all_higher h s [] l f = refl
all_higher h s (t ∷ ts) l f =
    rw (lt-leb t.hash s.hash (omega (arith, f.0))) (ap (λ (l : List Slot). t ∷ l) (all_higher t.hash s ts (omega (arith, f.0)) f.1))

-- a slot with an equal or lower hash stays in front, one with a higher hash does not
front_yes : (s t : Slot) → t.hash ≤ s.hash → in_front s t ≡ true
front_yes s t l = by_cases (in_front s t) (λ q. q) (λ q. absurd (omega (arith, leb-false)))

front_no : (s t : Slot) → s.hash < t.hash → in_front s t ≡ false
front_no s t l = by_cases (in_front s t) (λ q. absurd (omega (arith, leb-true))) (λ q. q)

slot_stands : (h : ℕ) (s : Slot) (ss : List Slot) → From h ss
    → insert_slot s ss ≡ keep (λ t. leb t.hash s.hash) ss ++ (s ∷ keep (λ t. not (leb t.hash s.hash)) ss)
unfolding insert_slot
slot_stands h s [] f = refl
slot_stands h s (t ∷ ts) f =
    by_cases (leb t.hash s.hash)
    (λ q. stays (in_front s t) (leb t.hash s.hash) _ lower higher (front_yes s t (leb-true t.hash s.hash q)) q (slot_stands t.hash s ts f.1))
    (λ q. let l : s.hash < t.hash = leb-false t.hash s.hash q in
    goes (in_front s t) (leb t.hash s.hash) _ lower higher (front_no s t l) q (none_lower t.hash s ts l f.1) (all_higher t.hash s ts l f.1))
  where
    lower : List Slot
    lower = keep (λ t. leb t.hash s.hash) ts

    higher : List Slot
    higher = keep (λ t. not (leb t.hash s.hash)) ts

    stays : (c d : Bool) (r k m : List Slot) → c ≡ true → d ≡ true → r ≡ k ++ (s ∷ m)
        → cond c (t ∷ r) (s ∷ t ∷ ts) ≡ cond d (t ∷ k) k ++ (s ∷ cond (not d) (t ∷ m) m)
    stays c d r k m p q w = rw (p, q) (ap (λ (l : List Slot). t ∷ l) w)

    goes : (c d : Bool) (r k m : List Slot) → c ≡ false → d ≡ false → k ≡ [] → m ≡ ts
        → cond c (t ∷ r) (s ∷ t ∷ ts) ≡ cond d (t ∷ k) k ++ (s ∷ cond (not d) (t ∷ m) m)
    goes c d r k m p q v w = rw (p, q, v, w) refl

pub slot_right : SlotRight
unfolding SlotRight
slot_right s ss h = slot_stands 0 s ss (rising_from ss h)
