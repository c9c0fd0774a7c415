-- The hash of a name's first bytes, in one step.
-- Assumes nothing.
use Prim.Native.Nat.{ℕ, zero, suc, ◌+◌, ◌-◌, ◌*◌, ◌/◌, ◌%◌, ◌^◌, ◌≤◌, ◌<◌}
use native.Mathlib.Omega.{arith}
use mathlib.Core.Path.{◌≡◌, refl, sym, ap, ◌∙◌}
use mathlib.Core.List.{List, [], ◌∷◌}
use lib.ListN.{length, take, drop, get_or, take-append-drop}
use lib.Seq.{take-append-le}
use Rattle.name.specs.Name.{rol, hash_byte, hash_from}
use Rattle.name.proofs.Scans.{four_at}
use Rattle.name.proofs.Hashing.{hash_append}

-- the four lowest bytes of a number, least significant first
abbrev le_bytes : ℕ → List ℕ
le_bytes w = w % 256 ∷ w / 256 % 256 ∷ w / 65536 % 256 ∷ w / 16777216 % 256 ∷ []

le_bytes_are : (w x y z t : ℕ) → w % 256 ≡ x → w / 256 % 256 ≡ y → w / 65536 % 256 ≡ z → w / 16777216 % 256 ≡ t → le_bytes w ≡ (x ∷ y ∷ z ∷ t ∷ [])
le_bytes_are w x y z t e f g h = rw (e, f, g, h)

-- the first k of four bytes, moved to the end of their word; zeros before them add nothing
pub first_is : (k a b c d w : ℕ) → k ≤ 4 → a < 256 → b < 256 → c < 256 → d < 256
    → w ≡ (a + b * 256 + c * 65536 + d * 16777216) * 2 ^ (32 - 8 * k) % 2 ^ 64 → hash_from 0 (le_bytes w) ≡ hash_from 0 (take k (a ∷ b ∷ c ∷ d ∷ []))
unfolding hash_from hash_byte rol
first_is zero a b c d w p pa pb pc pd e = ap (hash_from 0) (le_bytes_are w 0 0 0 0 (omega arith) (omega arith) (omega arith) (omega arith))
first_is (suc zero) a b c d w p pa pb pc pd e = ap (hash_from 0) (le_bytes_are w 0 0 0 a (omega arith) (omega arith) (omega arith) (omega arith))
first_is (suc (suc zero)) a b c d w p pa pb pc pd e = ap (hash_from 0) (le_bytes_are w 0 0 a b (omega arith) (omega arith) (omega arith) (omega arith))
first_is (suc (suc (suc zero))) a b c d w p pa pb pc pd e = ap (hash_from 0) (le_bytes_are w 0 a b c (omega arith) (omega arith) (omega arith) (omega arith))
first_is (suc (suc (suc (suc zero)))) a b c d w p pa pb pc pd e = ap (hash_from 0) (le_bytes_are w a b c d (omega arith) (omega arith) (omega arith) (omega arith))
first_is (suc (suc (suc (suc (suc k))))) a b c d w p pa pb pc pd e = absurd (omega arith)

-- a name of fewer than four bytes, with any byte behind them
pub first_short : (s : List ℕ) (d : ℕ) → length s < 4
    → take (length s) (get_or s 0 0 ∷ get_or s (length s / 2) 0 ∷ get_or s (length s - 1) 0 ∷ d ∷ []) ≡ s
first_short [] d p = refl
first_short (x ∷ []) d p = refl
first_short (x ∷ y ∷ []) d p = refl
first_short (x ∷ y ∷ z ∷ []) d p = refl
first_short (x ∷ y ∷ z ∷ w ∷ ws) d p = absurd (omega arith)

-- the hash of a longer one goes on behind its first bytes
pub first_long : (k : ℕ) (s : List ℕ) → k ≤ 4 → 4 ≤ length s
    → hash_from (hash_from 0 (take k (get_or s 0 0 ∷ get_or s 1 0 ∷ get_or s 2 0 ∷ get_or s 3 0 ∷ []))) (drop k s) ≡ hash_from 0 s
first_long k s p q =
    let g : List ℕ = get_or s 0 0 ∷ get_or s 1 0 ∷ get_or s 2 0 ∷ get_or s 3 0 ∷ [] in
    let e : take k g ≡ take k s = sym (ap (take k) (four_at s 0 q) ∙ take-append-le k g (drop 4 s) p) in
    ap (λ (l : List ℕ). hash_from (hash_from 0 l) (drop k s)) e ∙ sym (hash_append (take k s) (drop k s) 0) ∙ ap (hash_from 0) (take-append-drop k s)
