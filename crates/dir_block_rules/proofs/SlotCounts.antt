-- Slots at addresses that are apart: how many, and that they are no more than the live slots.
-- Assumes nothing.
use Prim.Native.Nat.{ℕ, ◌+◌, ◌≤◌, ◌<◌}
use native.Mathlib.Nat.{zero-add}
use native.Mathlib.Omega.{arith}
use mathlib.Core.Bool.{Bool, true, false, not, cond, ◌||◌, false≢true}
use mathlib.Core.Path.{◌≡◌, refl, sym, ◌∙◌, ap, ap₂, subst}
use mathlib.Core.List.{List, [], ◌∷◌}
use lib.Dec.{eqb}
use borrow.Author.Tests.{not-true, eqb-true, ne_eqb}
use Rattle.be.specs.Lists.{every, some_of, tally, total}
use Rattle.dir_block_rules.specs.Block.{Slot, is_stale, is_live}
use Rattle.be.proofs.Bools.{by_cases, clash, or_cases, every_head, every_tail}
use Rattle.dir_block_rules.proofs.PlainTests.{eqb_add}

-- 1 if the test passes, else 0
abbrev pub one_if : Bool → ℕ
one_if t = cond t 1 0

abbrev pub at_addr : ℕ → Slot → Bool
at_addr a s = eqb s.addr a

-- a list of numbers, none 0 and no two equal
abbrev pub Apart : List ℕ → Type 0
Apart [] = Unit {0}
Apart (a ∷ ads) = (0 < a) × (every (λ c. not (eqb a c)) ads ≡ true) × Apart ads

total_one : (c : ℕ) (ads : List ℕ) → every (λ a. not (eqb c a)) ads ≡ true → total (λ a. one_if (eqb c a)) ads ≡ 0
total_one c [] h = refl
total_one c (a ∷ ads) h = rw (not-true (eqb c a) (every_head (λ x. not (eqb c x)) a ads h)) (rw (total_one c ads (every_tail (λ x. not (eqb c x)) a ads h)))

-- c is among apart numbers once, or not
hits : (c : ℕ) (ads : List ℕ) → Apart ads → total (λ a. one_if (eqb c a)) ads ≡ one_if (some_of (λ a. eqb c a) ads)
hits c [] h = refl
hits c (a ∷ ads) h =
    by_cases (eqb c a)
    (λ q. let z : total (λ x. one_if (eqb c x)) ads ≡ 0 =
    total_one c ads (subst (λ (x : ℕ). every (λ y. not (eqb x y)) ads ≡ true) (sym (eqb-true c a q)) h.1) in
    rw (q, z) (omega arith))
    (λ q. rw q (zero-add (total (λ x. one_if (eqb c x)) ads) ∙ hits c ads h.2))

-- and it is not 0
pub hit_live : (ads : List ℕ) → Apart ads → (s : Slot) → some_of (λ a. eqb s.addr a) ads ≡ true → is_live s ≡ true
hit_live [] h s q = absurd (false≢true q)
hit_live (a ∷ ads) h s q =
    or_cases (eqb s.addr a) (some_of (λ x. eqb s.addr x) ads) q
    (λ z. rw (ne_eqb s.addr 0 (λ (y : s.addr ≡ 0). omega (arith, h.0, eqb-true s.addr a z))))
    (λ z. hit_live ads h.2 s z)

total_add : {A : Type 0} (f g : A → ℕ) (ads : List A) → total (λ a. f a + g a) ads ≡ total f ads + total g ads
total_add f g [] = refl
total_add f g (a ∷ ads) = rw (total_add f g ads) (omega arith)

total_zero : {A : Type 0} (ads : List A) → total (λ a. 0) ads ≡ 0
total_zero [] = refl
total_zero (a ∷ ads) = rw (total_zero ads)

-- the slots at each of apart addresses, added up, are the slots at some of them
pub counted : (p : Slot → Bool) (ads : List ℕ) → Apart ads → ((s : Slot) → some_of (λ a. eqb s.addr a) ads ≡ p s) → (ss : List Slot)
    → total (λ a. tally (at_addr a) ss) ads ≡ tally p ss
counted p ads h f [] = total_zero ads
counted p ads h f (s ∷ ss) =
    total_add (λ a. one_if (at_addr a s)) (λ a. tally (at_addr a) ss) ads
    ∙ ap₂ (λ (m n : ℕ). m + n) (hits s.addr ads h ∙ ap one_if (f s)) (counted p ads h f ss)

pub tally_le : (p q : Slot → Bool) → ((s : Slot) → p s ≡ true → q s ≡ true) → (ss : List Slot) → tally p ss ≤ tally q ss
tally_le p q f [] = omega arith
tally_le p q f (s ∷ ss) =
    by_cases (p s)
    (λ h. rw (h, f s h) (omega (arith, tally_le p q f ss)))
    (λ h. rw h (omega (arith, tally_le p q f ss)))

-- so they are no more than the live slots
pub pigeon : (ss : List Slot) (ads : List ℕ) → Apart ads → total (λ a. tally (at_addr a) ss) ads ≤ tally is_live ss
pigeon ss ads h =
    let hit : Slot → Bool = λ s. some_of (λ a. eqb s.addr a) ads in
    omega (arith, counted hit ads h (λ s. refl) ss, tally_le hit is_live (hit_live ads h) ss)

-- a test that passes at live slots only: it passes at each of them exactly if it passes as often as there are live slots
pub live_all : (p : Slot → Bool) → ((s : Slot) → p s ≡ true → is_live s ≡ true) → (ss : List Slot)
    → every (λ s. is_stale s || p s) ss ≡ eqb (tally is_live ss) (tally p ss)
live_all p f [] = refl
live_all p f (s ∷ ss) =
    let ih : every (λ t. is_stale t || p t) ss ≡ eqb (tally is_live ss) (tally p ss) = live_all p f ss in
    by_cases (is_stale s)
    (λ h. let n : p s ≡ false = by_cases (p s) (λ q. absurd (clash (f s q) (rw h))) (λ q. q) in
    rw (h, n) (ih ∙ sym (eqb_add 0 (tally is_live ss) (tally p ss))))
    (λ h. by_cases (p s)
    (λ q. rw (h, q) (ih ∙ sym (eqb_add 1 (tally is_live ss) (tally p ss))))
    (λ q. rw (h, q) (sym (ne_eqb (1 + tally is_live ss) (0 + tally p ss) (λ (z : 1 + tally is_live ss ≡ 0 + tally p ss). omega (arith, tally_le p is_live f ss))))))
