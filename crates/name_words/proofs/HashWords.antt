-- The hash of a word's eight bytes, first byte lowest: pairs, then fours, then the eight.
-- Assumes nothing.
use Prim.Native.Nat.{ℕ, ◌+◌, ◌*◌, ◌/◌, ◌%◌, ◌^◌, ◌≤◌, ◌<◌}
use mathlib.Core.Path.{◌≡◌, refl, sym, ap, ap₂, ◌∙◌}
use mathlib.Core.List.{List, [], ◌∷◌}
use native.Mathlib.Nat.{mod-lt, mod-eq_of_lt, add-zero}
use native.Mathlib.Omega.{arith}
use lib.Dec.{lit<, lit≤}
use lib.Bits.{bit_and, bit_xor, and_le_r, xor_lt, xor_block, xor_zero_l}
use lib.Pow.{pow_mono, pow_pos, shl_lt, shr_lt, high, low}
use Rattle.be.specs.Words.{le, to_le}
use Rattle.be.proofs.Bitwise.{xor_assoc}
use Rattle.be.proofs.Words.{Below, none, more, le_to_le}
use Rattle.name.specs.Name.{rol, hash_from}
use Rattle.name.proofs.Hashing.{four_is}
use Rattle.name_words.proofs.Lanes.{lanes, lane_shift, lane_xor}
use Rattle.name_words.proofs.Halves.{mask, low_halves, high_halves}

-- the two halves of q, k bits each, laid over each other, the low half shifted by s
abbrev laid : ℕ → ℕ → ℕ → ℕ
laid k s q = bit_xor (q % 2 ^ k * 2 ^ s) (q / 2 ^ k)

-- a step of the code, on a word w of lanes of two halves; the lanes have room for the shift, and the shift drops nothing
module _ (k s : ℕ) (room : s ≤ k) {qs : List ℕ} (b : Below (k + k) qs) (w m : ℕ)
    (ew : w ≡ lanes (k + k) (λ q. q) qs) (em : m ≡ lanes (k + k) (mask k) qs) where
  low_room : (q : ℕ) → q < 2 ^ (k + k) → q % 2 ^ k * 2 ^ s < 2 ^ (k + k)
  low_room q h =
      omega (arith, shl_lt k s (mod-lt q (pow_pos k)), pow_mono {i = k + s} {j = k + k} (omega arith))

  high_room : (q : ℕ) → q < 2 ^ (k + k) → q / 2 ^ k < 2 ^ (k + k)
  high_room q h = omega (arith, shr_lt k k h, pow_mono {i = k} {j = k + k} (omega arith))

  laid_lanes : bit_and w m * 2 ^ s % 2 ^ 64 ≡ bit_and w m * 2 ^ s
      → bit_xor (bit_and w m * 2 ^ s % 2 ^ 64) (bit_and (w / 2 ^ k) m) ≡ lanes (k + k) (laid k s) qs
  laid_lanes fits =
      ap₂ bit_xor
      (fits ∙ ap (λ (n : ℕ). n * 2 ^ s) (ap₂ bit_and ew em ∙ low_halves k b) ∙ lane_shift (k + k) s (λ q. q % 2 ^ k) qs)
      (ap₂ bit_and (ap (λ (n : ℕ). n / 2 ^ k) ew) em ∙ high_halves k b)
      ∙ lane_xor (k + k) (λ q. q % 2 ^ k * 2 ^ s) (λ q. q / 2 ^ k) low_room high_room b

-- ---- four bytes

xor_shl : (x y k : ℕ) → bit_xor x y * 2 ^ k ≡ bit_xor (x * 2 ^ k) (y * 2 ^ k)
xor_shl x y k =
    sym (ap₂ bit_xor (sym (add-zero (x * 2 ^ k))) (sym (add-zero (y * 2 ^ k))) ∙ xor_block k x y 0 0 (pow_pos k) (pow_pos k) ∙ add-zero (bit_xor x y * 2 ^ k))

abbrev pair : ℕ → ℕ → ℕ
pair a b = bit_xor (a * 2 ^ 7) b

abbrev quad : ℕ → ℕ → ℕ → ℕ → ℕ
quad a b c d = bit_xor (pair a b * 2 ^ 14) (pair c d)

module _ (h a b c d : ℕ) (p : h < 2 ^ 32) (pa : a < 2 ^ 8) (pb : b < 2 ^ 8) (pc : c < 2 ^ 8) where
  quad_is : hash_from h (a ∷ b ∷ c ∷ d ∷ []) ≡ bit_xor (rol 28 h) (quad a b c d)
  quad_is =
      let s : a * 2 ^ 7 * 2 ^ 14 ≡ a * 2 ^ 21 % 2 ^ 32 = omega arith in
      let t : b * 2 ^ 14 ≡ b * 2 ^ 14 % 2 ^ 32 = omega arith in
      let u : c * 2 ^ 7 ≡ c * 2 ^ 7 % 2 ^ 32 = omega arith in
      let e : quad a b c d ≡ bit_xor (bit_xor (a * 2 ^ 21 % 2 ^ 32) (b * 2 ^ 14 % 2 ^ 32)) (bit_xor (c * 2 ^ 7 % 2 ^ 32) d) =
      ap₂ bit_xor (xor_shl (a * 2 ^ 7) b 14 ∙ ap₂ bit_xor s t) (ap (λ (n : ℕ). bit_xor n d) u) in
      sym (four_is h a b c d p pa pb pc)
      ∙ xor_assoc (bit_xor (bit_xor (rol 28 h) (a * 2 ^ 21 % 2 ^ 32)) (b * 2 ^ 14 % 2 ^ 32)) (c * 2 ^ 7 % 2 ^ 32) d
      ∙ ap (λ (n : ℕ). bit_xor n (bit_xor (c * 2 ^ 7 % 2 ^ 32) d)) (xor_assoc (rol 28 h) (a * 2 ^ 21 % 2 ^ 32) (b * 2 ^ 14 % 2 ^ 32))
      ∙ xor_assoc (rol 28 h) (bit_xor (a * 2 ^ 21 % 2 ^ 32) (b * 2 ^ 14 % 2 ^ 32)) (bit_xor (c * 2 ^ 7 % 2 ^ 32) d)
      ∙ ap (bit_xor (rol 28 h)) (sym e)

pair_lt : (a b : ℕ) → a < 2 ^ 8 → b < 2 ^ 8 → pair a b < 2 ^ 15
pair_lt a b p q = xor_lt 15 (a * 2 ^ 7) b (omega arith) (omega arith)

quad_lt : (a b c d : ℕ) → a < 2 ^ 8 → b < 2 ^ 8 → c < 2 ^ 8 → d < 2 ^ 8 → quad a b c d < 2 ^ 29
quad_lt a b c d p q r s = xor_lt 29 (pair a b * 2 ^ 14) (pair c d) (omega (arith, pair_lt a b p q)) (omega (arith, pair_lt c d r s))

zero_first : (x : ℕ) → bit_xor (rol 28 0) x ≡ x
unfolding rol
zero_first x = xor_zero_l x

-- ---- eight bytes

module _ (b₀ b₁ b₂ b₃ b₄ b₅ b₆ b₇ : ℕ)
    (h₀ : b₀ < 2 ^ 8) (h₁ : b₁ < 2 ^ 8) (h₂ : b₂ < 2 ^ 8) (h₃ : b₃ < 2 ^ 8) (h₄ : b₄ < 2 ^ 8) (h₅ : b₅ < 2 ^ 8) (h₆ : b₆ < 2 ^ 8) (h₇ : b₇ < 2 ^ 8)
    (w : ℕ) (ew : w ≡ le (b₀ ∷ b₁ ∷ b₂ ∷ b₃ ∷ b₄ ∷ b₅ ∷ b₆ ∷ b₇ ∷ [])) where
  abbrev twos : List ℕ
  twos = (b₁ * 2 ^ 8 + b₀) ∷ (b₃ * 2 ^ 8 + b₂) ∷ (b₅ * 2 ^ 8 + b₄) ∷ (b₇ * 2 ^ 8 + b₆) ∷ []

  abbrev fours : List ℕ
  fours = (pair b₂ b₃ * 2 ^ 16 + pair b₀ b₁) ∷ (pair b₆ b₇ * 2 ^ 16 + pair b₄ b₅) ∷ []

  two_lt : (a b : ℕ) → a < 2 ^ 8 → b < 2 ^ 8 → b * 2 ^ 8 + a < 2 ^ 16
  two_lt a b p q = omega arith

  below_twos : Below 16 twos
  below_twos = more (two_lt b₀ b₁ h₀ h₁) (more (two_lt b₂ b₃ h₂ h₃) (more (two_lt b₄ b₅ h₄ h₅) (more (two_lt b₆ b₇ h₆ h₇) none)))

  as_twos : w ≡ lanes 16 (λ q. q) twos
  unfolding lanes le
  as_twos = ew ∙ omega arith

  pairs_of : (a b : ℕ) → a < 2 ^ 8 → laid 8 7 (b * 2 ^ 8 + a) ≡ pair a b
  pairs_of a b p = ap₂ (λ (m n : ℕ). bit_xor (m * 2 ^ 7) n) (low b 8 p) (high b 8 p)

  -- the bytes of each pair
  pairs_are : bit_xor (bit_and w 0x00ff00ff00ff00ff * 2 ^ 7 % 2 ^ 64) (bit_and (w / 2 ^ 8) 0x00ff00ff00ff00ff) ≡ lanes 32 (λ q. q) fours
  unfolding lanes
  pairs_are =
      laid_lanes 8 7 (lit≤ tt) below_twos w 0x00ff00ff00ff00ff as_twos refl (mod-eq_of_lt (omega (arith, and_le_r w 0x00ff00ff00ff00ff)))
      ∙ omega (arith, pairs_of b₀ b₁ h₀, pairs_of b₂ b₃ h₂, pairs_of b₄ b₅ h₄, pairs_of b₆ b₇ h₆)

  four_lt : (a b c d : ℕ) → a < 2 ^ 8 → b < 2 ^ 8 → c < 2 ^ 8 → d < 2 ^ 8 → pair c d * 2 ^ 16 + pair a b < 2 ^ 32
  four_lt a b c d p q r s = omega (arith, pair_lt a b p q, pair_lt c d r s)

  below_fours : Below 32 fours
  below_fours = more (four_lt b₀ b₁ b₂ b₃ h₀ h₁ h₂ h₃) (more (four_lt b₄ b₅ b₆ b₇ h₄ h₅ h₆ h₇) none)

  quads_of : (a b c d : ℕ) → a < 2 ^ 8 → b < 2 ^ 8 → laid 16 14 (pair c d * 2 ^ 16 + pair a b) ≡ quad a b c d
  quads_of a b c d p q =
      let l : pair a b < 2 ^ 16 = omega (arith, pair_lt a b p q) in
      ap₂ (λ (m n : ℕ). bit_xor (m * 2 ^ 14) n) (low (pair c d) 16 l) (high (pair c d) 16 l)

  -- the bytes of each four
  fours_are : (v : ℕ) → v ≡ bit_xor (bit_and w 0x00ff00ff00ff00ff * 2 ^ 7 % 2 ^ 64) (bit_and (w / 2 ^ 8) 0x00ff00ff00ff00ff)
      → bit_xor (bit_and v 0x0000ffff0000ffff * 2 ^ 14 % 2 ^ 64) (bit_and (v / 2 ^ 16) 0x0000ffff0000ffff) ≡ quad b₄ b₅ b₆ b₇ * 2 ^ 32 + quad b₀ b₁ b₂ b₃
  unfolding lanes
  fours_are v ev =
      laid_lanes 16 14 (lit≤ tt) below_fours v 0x0000ffff0000ffff (ev ∙ pairs_are) refl (mod-eq_of_lt (omega (arith, and_le_r v 0x0000ffff0000ffff)))
      ∙ omega (arith, quads_of b₀ b₁ b₂ b₃ h₀ h₁, quads_of b₄ b₅ b₆ b₇ h₄ h₅)

  eight_is : hash_from 0 (b₀ ∷ b₁ ∷ b₂ ∷ b₃ ∷ b₄ ∷ b₅ ∷ b₆ ∷ b₇ ∷ []) ≡ bit_xor (rol 28 (quad b₀ b₁ b₂ b₃)) (quad b₄ b₅ b₆ b₇)
  unfolding hash_from
  eight_is =
      let e : hash_from 0 (b₀ ∷ b₁ ∷ b₂ ∷ b₃ ∷ []) ≡ quad b₀ b₁ b₂ b₃ = quad_is 0 b₀ b₁ b₂ b₃ (lit< tt) h₀ h₁ h₂ ∙ zero_first (quad b₀ b₁ b₂ b₃) in
      ap (λ (n : ℕ). hash_from n (b₄ ∷ b₅ ∷ b₆ ∷ b₇ ∷ [])) e
      ∙ quad_is (quad b₀ b₁ b₂ b₃) b₄ b₅ b₆ b₇ (omega (arith, quad_lt b₀ b₁ b₂ b₃ h₀ h₁ h₂ h₃)) h₄ h₅ h₆

-- what the code makes of the fours
joined : (lo hi : ℕ) → lo < 2 ^ 29 → bit_xor (rol 28 ((hi * 2 ^ 32 + lo) % 2 ^ 32)) ((hi * 2 ^ 32 + lo) / 2 ^ 32) ≡ bit_xor (rol 28 lo) hi
joined lo hi p =
    let q : lo < 2 ^ 32 = omega arith in
    ap₂ (λ (m n : ℕ). bit_xor (rol 28 m) n) (low hi 32 q) (high hi 32 q)

byte : (n : ℕ) → n % 256 < 2 ^ 8
byte n = mod-lt n (lit< tt)

module _ (w v f : ℕ) (h : w < 2 ^ 64)
    (ev : v ≡ bit_xor (bit_and w 0x00ff00ff00ff00ff * 2 ^ 7 % 2 ^ 64) (bit_and (w / 2 ^ 8) 0x00ff00ff00ff00ff))
    (ef : f ≡ bit_xor (bit_and v 0x0000ffff0000ffff * 2 ^ 14 % 2 ^ 64) (bit_and (v / 2 ^ 16) 0x0000ffff0000ffff)) where
  pub hash_word_law : (r : ℕ) → r ≡ rol 28 (f % 2 ^ 32) → bit_xor r (f / 2 ^ 32) ≡ hash_from 0 (to_le 8 w)
  unfolding to_le
  hash_word_law r er =
      let w₁ : ℕ = w / 256 in
      let w₂ : ℕ = w₁ / 256 in
      let w₃ : ℕ = w₂ / 256 in
      let w₄ : ℕ = w₃ / 256 in
      let w₅ : ℕ = w₄ / 256 in
      let w₆ : ℕ = w₅ / 256 in
      let w₇ : ℕ = w₆ / 256 in
      let e : f ≡ quad (w₄ % 256) (w₅ % 256) (w₆ % 256) (w₇ % 256) * 2 ^ 32 + quad (w % 256) (w₁ % 256) (w₂ % 256) (w₃ % 256) =
      ef ∙ fours_are (w % 256) (w₁ % 256) (w₂ % 256) (w₃ % 256) (w₄ % 256) (w₅ % 256) (w₆ % 256) (w₇ % 256)
      (byte w) (byte w₁) (byte w₂) (byte w₃) (byte w₄) (byte w₅) (byte w₆) (byte w₇) w (sym (le_to_le 8 w h)) v ev in
      ap (λ (n : ℕ). bit_xor n (f / 2 ^ 32)) er ∙ ap (λ (n : ℕ). bit_xor (rol 28 (n % 2 ^ 32)) (n / 2 ^ 32)) e
      ∙ joined (quad (w % 256) (w₁ % 256) (w₂ % 256) (w₃ % 256)) (quad (w₄ % 256) (w₅ % 256) (w₆ % 256) (w₇ % 256))
      (quad_lt (w % 256) (w₁ % 256) (w₂ % 256) (w₃ % 256) (byte w) (byte w₁) (byte w₂) (byte w₃))
      ∙ sym (eight_is (w % 256) (w₁ % 256) (w₂ % 256) (w₃ % 256) (w₄ % 256) (w₅ % 256) (w₆ % 256) (w₇ % 256)
      (byte w) (byte w₁) (byte w₂) (byte w₃) (byte w₄) (byte w₅) (byte w₆) (byte w₇) w (sym (le_to_le 8 w h)))

pub hi_lt : (a b : ℕ) → bit_xor (a % 2 ^ 64) (bit_and b 0x0000ffff0000ffff) / 2 ^ 32 < 2 ^ 32
hi_lt a b = shr_lt 32 32 (xor_lt 64 (a % 2 ^ 64) (bit_and b 0x0000ffff0000ffff) (mod-lt a (pow_pos 64)) (omega (arith, and_le_r b 0x0000ffff0000ffff)))
