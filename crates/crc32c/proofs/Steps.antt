-- The polynomial steps are linear over exclusive or; eight of them take the low byte through the table and move the rest down; they
-- stay within 32 bits.
-- Assumes nothing.
use mathlib.Core.Path.{◌≡◌, refl, sym, ap, ap₂, ◌∙◌}
use Prim.Native.Nat.{ℕ, zero, suc, ◌+◌, ◌*◌, ◌/◌, ◌%◌, ◌^◌, ◌≤◌, ◌<◌}
use native.Mathlib.Nat.{mod-lt, div-add-mod', zero-lt-suc, le_of_suc-le-suc, not-suc-le-zero, mul-div_cancel, mul-mod_left, zero-mul, pow-suc, mul_assoc, div-eq_of_lt, zero-add, suc-add}
use native.Mathlib.Omega.{arith}
use lib.Bits.{bit_xor, xor_shr, xor_mod, xor_zero_r, xor_comm, xor_self, xor_shifted, xor_lt}
use lib.Pow.{pow_pos}
use Rattle.crc32c.specs.Crc.{poly_step, poly_steps, eight, crc_from, crc_of}
use lib.ListN.{length, get_or, drop, drop_of_length-le}
use lib.Seq.{drop-cons}
use mathlib.Core.List.{List, [], ◌∷◌, ◌++◌}
use mathlib.Core.Bool.{true}
use lib.Dec.{ltb, lit<}
use borrow.Author.Tests.{ltb-true}
use Rattle.be.specs.Bytes.{bytes}
use Rattle.be.proofs.Bools.{every_head, every_tail}
use Rattle.be.proofs.Bitwise.{xor_assoc}
use native.Mathlib.Numerals.{add-one}

two_pos : zero < 2
two_pos = zero-lt-suc 1

none : {x : ℕ} {A : Type 0} → suc (suc x) < 2 → A
none h = absurd (not-suc-le-zero (le_of_suc-le-suc (le_of_suc-le-suc h)))

xor_four : (a b c d : ℕ) → bit_xor (bit_xor a b) (bit_xor c d) ≡ bit_xor (bit_xor a c) (bit_xor b d)
xor_four a b c d =
    xor_assoc a b (bit_xor c d)
    ∙ ap (bit_xor a) (sym (xor_assoc b c d) ∙ ap (λ (x : ℕ). bit_xor x d) (xor_comm b c) ∙ xor_assoc c b d)
    ∙ sym (xor_assoc a c (bit_xor b d))

digit_mul : (p x y : ℕ) → x < 2 → y < 2 → bit_xor x y * p ≡ bit_xor (x * p) (y * p)
digit_mul p zero y hx hy = ap (λ (x : ℕ). bit_xor x (y * p)) (sym (zero-mul p))
digit_mul p (suc zero) zero hx hy = sym (ap (bit_xor (1 * p)) (zero-mul p) ∙ xor_zero_r (1 * p))
digit_mul p (suc zero) (suc zero) hx hy = zero-mul p ∙ sym (xor_self (1 * p))
digit_mul p (suc zero) (suc (suc y)) hx hy = none hy
digit_mul p (suc (suc x)) y hx hy = none hx

step_xor : (a b : ℕ) → poly_step (bit_xor a b) ≡ bit_xor (poly_step a) (poly_step b)
unfolding poly_step
step_xor a b =
    ap₂ (λ (x y : ℕ). bit_xor x (y * 2197175160)) (xor_shr a b 1) (xor_mod a b 1)
    ∙ ap (bit_xor (bit_xor (a / 2) (b / 2))) (digit_mul 2197175160 (a % 2) (b % 2) (mod-lt a two_pos) (mod-lt b two_pos))
    ∙ xor_four (a / 2) (b / 2) (a % 2 * 2197175160) (b % 2 * 2197175160)

pub steps_xor : (n a b : ℕ) → poly_steps n (bit_xor a b) ≡ bit_xor (poly_steps n a) (poly_steps n b)
unfolding poly_steps
steps_xor zero a b = refl
steps_xor (suc n) a b = ap (poly_steps n) (step_xor a b) ∙ steps_xor n (poly_step a) (poly_step b)

step_even : (y : ℕ) → poly_step (y * 2) ≡ y
unfolding poly_step
step_even y = ap₂ (λ (p q : ℕ). bit_xor p (q * 2197175160)) (mul-div_cancel y two_pos) (mul-mod_left y 2) ∙ xor_zero_r y

pub steps_shift : (n h : ℕ) → poly_steps n (h * 2 ^ n) ≡ h
unfolding poly_steps
steps_shift zero h = omega arith
steps_shift (suc n) h = ap (λ (x : ℕ). poly_steps n (poly_step x)) (ap (λ (x : ℕ). h * x) (pow-suc 2 n) ∙ sym (mul_assoc h (2 ^ n) 2)) ∙ ap (poly_steps n) (step_even (h * 2 ^ n)) ∙ steps_shift n h

-- the low byte goes through the table, and the rest moves down
eight_split : (x : ℕ) → eight x ≡ bit_xor (x / 256) (eight (x % 256))
unfolding eight
eight_split x =
    ap (poly_steps 8) (sym (xor_shifted (x / 256) 8 (x % 256) (mod-lt x (pow_pos 8)) ∙ div-add-mod' x 256))
    ∙ steps_xor 8 (x / 256 * 256) (x % 256)
    ∙ ap (λ (y : ℕ). bit_xor y (poly_steps 8 (x % 256))) (steps_shift 8 (x / 256))

pub byte_rule : (c b : ℕ) → b < 256 → bit_xor (eight (bit_xor c b % 256)) (c / 256) ≡ eight (bit_xor c b)
byte_rule c b h =
    xor_comm (eight (bit_xor c b % 256)) (c / 256)
    ∙ ap (λ (x : ℕ). bit_xor x (eight (bit_xor c b % 256))) (sym (xor_shr c b 8 ∙ ap (bit_xor (c / 256)) (div-eq_of_lt h) ∙ xor_zero_r (c / 256)))
    ∙ sym (eight_split (bit_xor c b))

pub from_drop : (c i : ℕ) (s : List ℕ) → i < length s → crc_from c (drop i s) ≡ crc_from (eight (bit_xor c (get_or s i 0))) (drop (i + 1) s)
unfolding crc_from
from_drop c i s h = ap (crc_from c) (drop-cons s i 0 h) ∙ ap (λ (n : ℕ). crc_from (eight (bit_xor c (get_or s i 0))) (drop n s)) (sym (add-one i))

pub from_end : (c i : ℕ) (s : List ℕ) → length s ≤ i → crc_from c (drop i s) ≡ c
unfolding crc_from
from_end c i s h = ap (crc_from c) (drop_of_length-le s h)

pub steps_add : (m n c : ℕ) → poly_steps (m + n) c ≡ poly_steps n (poly_steps m c)
unfolding poly_steps
steps_add zero n c = ap (λ (k : ℕ). poly_steps k c) (zero-add n)
steps_add (suc m) n c = ap (λ (k : ℕ). poly_steps k c) (suc-add m n) ∙ steps_add m n (poly_step c)

-- the register goes on over two runs of bytes
pub from_append : (xs ys : List ℕ) (c : ℕ) → crc_from c (xs ++ ys) ≡ crc_from (crc_from c xs) ys
unfolding crc_from
from_append [] ys c = refl
from_append (x ∷ xs) ys c = from_append xs ys (eight (bit_xor c x))

-- ---- 32 bits

step_lt : (c : ℕ) → c < 2 ^ 32 → poly_step c < 2 ^ 32
unfolding poly_step
step_lt c h =
    let r : c % 2 < 2 = mod-lt c two_pos in
    xor_lt 32 (c / 2) (c % 2 * 2197175160) (omega (arith, h)) (omega (arith, r))

steps_lt : (n c : ℕ) → c < 2 ^ 32 → poly_steps n c < 2 ^ 32
unfolding poly_steps
steps_lt zero c h = h
steps_lt (suc n) c h = steps_lt n (poly_step c) (step_lt c h)

from_lt : (xs : List ℕ) (c : ℕ) → bytes xs ≡ true → c < 2 ^ 32 → crc_from c xs < 2 ^ 32
unfolding crc_from eight
from_lt [] c b h = h
from_lt (x ∷ xs) c b h =
    let l : x < 256 = ltb-true x 256 (every_head (λ y. ltb y 256) x xs b) in
    from_lt xs (eight (bit_xor c x)) (every_tail (λ y. ltb y 256) x xs b) (steps_lt 8 (bit_xor c x) (xor_lt 32 c x h (omega (arith, l))))

pub crc_lt : (xs : List ℕ) → bytes xs ≡ true → crc_of xs < 2 ^ 32
unfolding crc_of
crc_lt xs b = xor_lt 32 (crc_from 4294967295 xs) 4294967295 (from_lt xs 4294967295 b (lit< tt)) (lit< tt)
