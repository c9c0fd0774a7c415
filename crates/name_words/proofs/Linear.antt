-- The hash is linear: what a hash so far adds to the hash of some bytes is itself, rotated by 7 for each byte.
-- Assumes nothing.
use Prim.Native.Nat.{ℕ, zero, suc, ◌+◌, ◌-◌, ◌*◌, ◌%◌, ◌^◌, ◌≤◌, ◌<◌}
use mathlib.Core.Path.{◌≡◌, refl, sym, ap, ◌∙◌}
use mathlib.Core.List.{List, ◌++◌}
use native.Mathlib.Nat.{mod-lt, mod-eq_of_lt}
use native.Mathlib.Omega.{arith}
use lib.Bits.{bit_xor, xor_lt, xor_zero_r}
use lib.Dec.{ltb, lit<, lit≤}
use lib.ListN.{length, replicate}
use borrow.Author.Tests.{ltb-true, ltb-false}
use Rattle.be.proofs.Bitwise.{xor_assoc}
use Rattle.be.proofs.Bools.{by_cases}
use Rattle.be.proofs.Words.{Bytes, none, more}
use Rattle.name.specs.Name.{rol, hash_byte, hash_from}
use Rattle.name.proofs.Rotation.{rol_xor, rol_rol, rol_lt}

-- n times by 7
unfoldable turned : ℕ → ℕ → ℕ
turned zero h = h
turned (suc n) h = turned n (rol 7 h)

seven : (h : ℕ) → h < 2 ^ 32 → rol 7 h < 2 ^ 32
seven h p = rol_lt 7 h (lit≤ tt) p

hash_xor : (g h : ℕ) → g < 2 ^ 32 → h < 2 ^ 32 → {xs : List ℕ} → Bytes xs
    → hash_from (bit_xor g h) xs ≡ bit_xor (turned (length xs) g) (hash_from h xs)
unfolding turned hash_from hash_byte
hash_xor g h p q none = refl
hash_xor g h p q (more {x} {xs} l r) =
    ap (λ (n : ℕ). hash_from n xs)
    (ap (λ (n : ℕ). bit_xor n x) (rol_xor 7 g h (lit≤ tt) p q) ∙ xor_assoc (rol 7 g) (rol 7 h) x)
    ∙ hash_xor (rol 7 g) (bit_xor (rol 7 h) x) (seven g p) (xor_lt 32 (rol 7 h) x (seven h q) (omega arith)) r

hash_parts : (h : ℕ) → h < 2 ^ 32 → {xs : List ℕ} → Bytes xs → hash_from h xs ≡ bit_xor (turned (length xs) h) (hash_from 0 xs)
hash_parts h p {xs} r = ap (λ (n : ℕ). hash_from n xs) (sym (xor_zero_r h)) ∙ hash_xor h 0 p (lit< tt) r

pub rol_none : (h : ℕ) → h < 2 ^ 32 → rol 0 h ≡ h
unfolding rol
rol_none h p = omega (arith, p)

rol_all : (h : ℕ) → h < 2 ^ 32 → rol 32 h ≡ h
unfolding rol
rol_all h p = omega (arith, p)

-- one rotation after another, past the whole turn
rol_past : (i h : ℕ) → i < 32 → 32 ≤ i + 7 → h < 2 ^ 32 → rol i (rol 7 h) ≡ rol (i + 7 - 32) h
rol_past i h a b p =
    let j : ℕ = i - 25 in
    let e : i ≡ j + 25 = omega arith in
    let f : j ≡ i + 7 - 32 = omega arith in
    ap (λ (n : ℕ). rol n (rol 7 h)) e
    ∙ sym (rol_rol j 25 (rol 7 h) (omega arith) (seven h p))
    ∙ ap (rol j) (rol_rol 25 7 h (lit≤ tt) p ∙ rol_all h p)
    ∙ ap (λ (n : ℕ). rol n h) f

rol_seven : (i h : ℕ) → i < 32 → h < 2 ^ 32 → rol i (rol 7 h) ≡ rol ((i + 7) % 32) h
rol_seven i h a p =
    by_cases (ltb (i + 7) 32)
    (λ t.
    let l : i + 7 < 32 = ltb-true (i + 7) 32 t in
    rol_rol i 7 h (omega arith) p ∙ ap (λ (n : ℕ). rol n h) (sym (mod-eq_of_lt l)))
    (λ t.
    let l : 32 ≤ i + 7 = ltb-false (i + 7) 32 t in
    let e : i + 7 - 32 ≡ (i + 7) % 32 = omega arith in
    rol_past i h a l p ∙ ap (λ (n : ℕ). rol n h) e)

turned_rol : (n h : ℕ) → h < 2 ^ 32 → turned n h ≡ rol (7 * n % 32) h
unfolding turned
turned_rol zero h p = sym (rol_none h p)
turned_rol (suc n) h p =
    let e : (7 * n % 32 + 7) % 32 ≡ 7 * suc n % 32 = omega arith in
    turned_rol n (rol 7 h) (seven h p) ∙ rol_seven (7 * n % 32) h (mod-lt (7 * n) (lit< tt)) p ∙ ap (λ (m : ℕ). rol m h) e

-- a hash so far, and the hash of the bytes after it
pub hash_join : (h : ℕ) → h < 2 ^ 32 → {xs : List ℕ} → Bytes xs → hash_from h xs ≡ bit_xor (rol (7 * length xs % 32) h) (hash_from 0 xs)
hash_join h p {xs} r = hash_parts h p r ∙ ap (λ (n : ℕ). bit_xor n (hash_from 0 xs)) (turned_rol (length xs) h p)

-- leading zeros add nothing
pub hash_zeros : (n : ℕ) (xs : List ℕ) → hash_from 0 (replicate n 0 ++ xs) ≡ hash_from 0 xs
unfolding hash_from hash_byte rol
hash_zeros zero xs = refl
hash_zeros (suc n) xs = hash_zeros n xs
