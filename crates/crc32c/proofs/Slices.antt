-- Eight bytes a turn: the register after some bytes is that many times eight steps of the register and the bytes' number, laid over each
-- other; and the steps of a number are those of its bytes, each from its own table.
-- Assumes nothing.
use Prim.Native.Nat.{ℕ, zero, suc, ◌+◌, ◌-◌, ◌*◌, ◌/◌, ◌%◌, ◌^◌, ◌≤◌, ◌<◌}
use mathlib.Core.Path.{◌≡◌, sym, ap, ap₂, ◌∙◌}
use mathlib.Core.Bool.{true}
use mathlib.Core.List.{List, [], ◌∷◌}
use native.Mathlib.Nat.{mod-lt, div-add-mod'}
use native.Mathlib.Omega.{arith}
use lib.Bits.{bit_xor, xor_zero_r, xor_comm, xor_shifted}
use lib.Pow.{pow_pos, shr_lt}
use lib.Dec.{ltb}
use lib.ListN.{length, take, drop, length-drop, take-append-drop}
use lib.Seq.{length-take-le, drop-drop}
use borrow.Author.Tests.{ltb-true}
use Rattle.be.specs.Bytes.{bytes, part}
use Rattle.be.specs.Words.{le}
use Rattle.be.proofs.Bools.{every_head, every_tail}
use Rattle.be.proofs.Bitwise.{xor_assoc}
use Rattle.be.proofs.Parts.{bytes_take, bytes_drop}
use Rattle.crc32c.specs.Crc.{poly_steps, eight, crc_from}
use Rattle.crc32c.specs.Seal.{zeros}
use Rattle.crc32c.proofs.Steps.{steps_xor, steps_shift, steps_add, byte_rule, from_append}

-- a number with a byte below it, laid over c
below : (c x y : ℕ) → x < 256 → bit_xor c (y * 256 + x) ≡ bit_xor (bit_xor c x) (y * 256)
below c x y h =
    ap (bit_xor c) (sym (xor_shifted y 8 x h) ∙ xor_comm (y * 256) x) ∙ sym (xor_assoc c x (y * 256))

-- a byte's turn, with more above it
turn : (c x y : ℕ) → x < 256 → poly_steps 8 (bit_xor c (y * 256 + x)) ≡ bit_xor (eight (bit_xor c x)) y
unfolding eight
turn c x y h =
    ap (poly_steps 8) (below c x y h) ∙ steps_xor 8 (bit_xor c x) (y * 256)
    ∙ ap (bit_xor (poly_steps 8 (bit_xor c x))) (steps_shift 8 y)

-- the register after some bytes: eight steps for each, of the register laid over the bytes' little-endian number
pub from_word : (xs : List ℕ) (c : ℕ) → bytes xs ≡ true → crc_from c xs ≡ poly_steps (length xs * 8) (bit_xor c (le xs))
unfolding crc_from poly_steps le
from_word [] c h = sym (xor_zero_r c)
from_word (x ∷ xs) c h =
    let e : 8 + length xs * 8 ≡ length (x ∷ xs) * 8 = omega arith in
    from_word xs (eight (bit_xor c x)) (every_tail (λ y. ltb y 256) x xs h)
    ∙ ap (poly_steps (length xs * 8)) (sym (turn c x (le xs) (ltb-true x 256 (every_head (λ y. ltb y 256) x xs h))))
    ∙ sym (steps_add 8 (length xs * 8) (bit_xor c (le xs * 256 + x)))
    ∙ ap (λ (n : ℕ). poly_steps n (bit_xor c (le xs * 256 + x))) e

-- the k bytes of x, each by as many steps as stand above it and itself
unfoldable pub sliced : ℕ → ℕ → ℕ
sliced zero x = 0
sliced (suc k) x = bit_xor (poly_steps (8 + k * 8) (x % 256)) (sliced k (x / 256))

pub steps_sliced : (k x : ℕ) → x < 2 ^ (k * 8) → poly_steps (k * 8) x ≡ sliced k x
unfolding sliced poly_steps
steps_sliced zero x h = omega (arith, h)
steps_sliced (suc k) x h =
    let e : suc k * 8 ≡ 8 + k * 8 = omega arith in
    let f : suc k * 8 ≡ k * 8 + 8 = omega arith in
    let y : ℕ = x / 256 in
    let s : x ≡ bit_xor (y * 256) (x % 256) = sym (xor_shifted y 8 (x % 256) (mod-lt x (pow_pos 8)) ∙ div-add-mod' x 256) in
    ap (λ (n : ℕ). poly_steps n x) e
    ∙ ap (poly_steps (8 + k * 8)) s
    ∙ steps_xor (8 + k * 8) (y * 256) (x % 256)
    ∙ ap (λ (n : ℕ). bit_xor n (poly_steps (8 + k * 8) (x % 256)))
    (steps_add 8 (k * 8) (y * 256) ∙ ap (poly_steps (k * 8)) (steps_shift 8 y) ∙ steps_sliced k y (shr_lt (k * 8) 8 (rw f at h)))
    ∙ xor_comm (sliced k y) (poly_steps (8 + k * 8) (x % 256))

-- a turn, as the code makes it
pub turn_law : (x r₀ r₁ r₂ r₃ r₄ r₅ r₆ r₇ : ℕ) → x < 2 ^ 64
    → r₇ ≡ poly_steps 64 (x % 256)
    → r₆ ≡ poly_steps 56 (x / 256 % 256)
    → r₅ ≡ poly_steps 48 (x / 256 / 256 % 256)
    → r₄ ≡ poly_steps 40 (x / 256 / 256 / 256 % 256)
    → r₃ ≡ poly_steps 32 (x / 256 / 256 / 256 / 256 % 256)
    → r₂ ≡ poly_steps 24 (x / 256 / 256 / 256 / 256 / 256 % 256)
    → r₁ ≡ poly_steps 16 (x / 256 / 256 / 256 / 256 / 256 / 256 % 256)
    → r₀ ≡ poly_steps 8 (x / 256 / 256 / 256 / 256 / 256 / 256 / 256 % 256)
    → bit_xor r₇ (bit_xor r₆ (bit_xor r₅ (bit_xor r₄ (bit_xor r₃ (bit_xor r₂ (bit_xor r₁ r₀)))))) ≡ poly_steps 64 x
unfolding sliced
turn_law x r₀ r₁ r₂ r₃ r₄ r₅ r₆ r₇ h e₇ e₆ e₅ e₄ e₃ e₂ e₁ e₀ =
    rw (e₇, e₆, e₅, e₄, e₃, e₂, e₁, e₀) (sym (rw xor_zero_r at (steps_sliced 8 x h)))

-- a byte, as the code takes it
pub next_law : (c b w v : ℕ) {r : ℕ} → b < 256 → w ≡ c → v ≡ b → r ≡ poly_steps 8 (bit_xor w v % 256) → bit_xor r (c / 256) ≡ eight (bit_xor c b)
unfolding eight
next_law c b w v h p q s = rw (s, p, q) (byte_rule c b h)

-- four zero bytes
pub zeros_law : (c₀ c₁ c₂ c₃ c₄ : ℕ) → c₁ ≡ eight (bit_xor c₀ 0) → c₂ ≡ eight (bit_xor c₁ 0) → c₃ ≡ eight (bit_xor c₂ 0) → c₄ ≡ eight (bit_xor c₃ 0)
    → c₄ ≡ crc_from c₀ zeros
unfolding crc_from
zeros_law c₀ c₁ c₂ c₃ c₄ p q r s =
    let step : ℕ → ℕ = λ x. eight (bit_xor x 0) in
    s ∙ ap step (r ∙ ap step (q ∙ ap step p))

-- a turn of the loop
pub turn_on : (s : List ℕ) (i c w r : ℕ) → bytes s ≡ true → 8 ≤ length s - i → w ≡ le (part i 8 s) → r ≡ poly_steps 64 (bit_xor c w)
    → crc_from c (drop i s) ≡ crc_from r (drop (i + 8) s)
turn_on s i c w r h p e f =
    let l : length (take 8 (drop i s)) ≡ 8 = length-take-le 8 (drop i s) (rw length-drop (omega arith)) in
    let b : bytes (take 8 (drop i s)) ≡ true = bytes_take 8 (drop i s) (bytes_drop i s h) in
    ap (crc_from c) (sym (take-append-drop 8 (drop i s)))
    ∙ from_append (take 8 (drop i s)) (drop 8 (drop i s)) c
    ∙ ap₂ crc_from (from_word (take 8 (drop i s)) c b ∙ ap (λ (n : ℕ). poly_steps (n * 8) (bit_xor c (le (take 8 (drop i s))))) l ∙ ap (λ (v : ℕ). poly_steps 64 (bit_xor c v)) (sym e) ∙ sym f) (drop-drop 8 i s)
