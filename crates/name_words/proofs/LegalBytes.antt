-- The marks of a word's bytes, lane by lane; what a mark says of its byte is tested once over all 256.
-- Assumes nothing.
use Prim.Native.Nat.{ℕ, ◌+◌, ◌^◌, ◌<◌}
use mathlib.Core.Path.{◌≡◌, refl, sym, ap₂, ◌∙◌}
use mathlib.Core.List.{List}
use native.Mathlib.Omega.{arith}
use lib.Dec.{eqb, lit<}
use lib.Bits.{bit_and, bit_or, bit_xor, and_lt, or_lt, xor_lt, mask_lt}
use Rattle.be.specs.Lists.{every}
use Rattle.be.specs.Words.{to_le}
use Rattle.be.proofs.EachByte.{each_byte}
use Rattle.be.proofs.Words.{Bytes, le_to_le, to_le_bytes}
use Rattle.name.specs.Name.{legal_byte}
use Rattle.name_words.specs.Words.{marked}
use Rattle.name_words.proofs.Lanes.{On, lanes, lane_and, lane_or, lane_xor, lane_add, lane_eqb, lane_le, every_same}

-- ---- one byte

abbrev over : ℕ → ℕ
over b = bit_xor b 47

abbrev up : ℕ → ℕ
up b = bit_and b 127 + 127

abbrev flag : ℕ → ℕ
flag b = bit_and (bit_and (bit_or (up b) b) (bit_or (up (over b)) (over b))) 128

flag_legal : (b : ℕ) → b < 256 → eqb (flag b) 128 ≡ legal_byte b
flag_legal = each_byte (λ b. eqb (flag b) 128) legal_byte tt

-- ---- the word

on_up : (b : ℕ) → up b < 2 ^ 8
on_up b = omega (arith, mask_lt b 7)

on_over : On 8 over
on_over b h = xor_lt 8 b 47 h (lit< tt)

on_left : On 8 (λ b. bit_or (up b) b)
on_left b h = or_lt 8 (up b) b (on_up b) h

on_right : On 8 (λ b. bit_or (up (over b)) (over b))
on_right b h = or_lt 8 (up (over b)) (over b) (on_up (over b)) (on_over b h)

on_both : On 8 (λ b. bit_and (bit_or (up b) b) (bit_or (up (over b)) (over b)))
on_both b h = and_lt 8 (bit_or (up b) b) (bit_or (up (over b)) (over b)) (on_left b h) (on_right b h)

module _ {bs : List ℕ} (r : Bytes bs) (v m s t : ℕ)
    (ev : v ≡ lanes 8 (λ b. b) bs) (em : m ≡ lanes 8 (λ b. 127) bs) (es : s ≡ lanes 8 (λ b. 47) bs) (et : t ≡ lanes 8 (λ b. 128) bs) where
  x_is : bit_xor v s ≡ lanes 8 over bs
  x_is = ap₂ bit_xor ev es ∙ lane_xor 8 (λ b. b) (λ b. 47) (λ b h. h) (λ b h. lit< tt) r

  up_is : (w : ℕ) (f : ℕ → ℕ) → On 8 f → w ≡ lanes 8 f bs → bit_or (bit_and w m + m) w ≡ lanes 8 (λ b. bit_or (up (f b)) (f b)) bs
  up_is w f o e =
      let low : bit_and w m ≡ lanes 8 (λ b. bit_and (f b) 127) bs = ap₂ bit_and e em ∙ lane_and 8 f (λ b. 127) o (λ b h. lit< tt) r in
      ap₂ bit_or (ap₂ (λ (p q : ℕ). p + q) low em ∙ lane_add 8 (λ b. bit_and (f b) 127) (λ b. 127) bs) e
      ∙ lane_or 8 (λ b. up (f b)) f (λ b h. on_up (f b)) o r

  marks_lanes : eqb (bit_and (bit_and (bit_or (bit_and v m + m) v) (bit_or (bit_and (bit_xor v s) m + m) (bit_xor v s))) t) t ≡ every legal_byte bs
  marks_lanes =
      let both : bit_and (bit_or (bit_and v m + m) v) (bit_or (bit_and (bit_xor v s) m + m) (bit_xor v s))
      ≡ lanes 8 (λ b. bit_and (bit_or (up b) b) (bit_or (up (over b)) (over b))) bs =
      ap₂ bit_and (up_is v (λ b. b) (λ b h. h) ev) (up_is (bit_xor v s) over on_over x_is)
      ∙ lane_and 8 (λ b. bit_or (up b) b) (λ b. bit_or (up (over b)) (over b)) on_left on_right r in
      ap₂ eqb (ap₂ bit_and both et ∙ lane_and 8 _ (λ b. 128) on_both (λ b h. lit< tt) r) et
      ∙ lane_eqb 8 flag (λ b. 128) (λ b h. and_lt 8 _ 128 (on_both b h) (lit< tt)) (λ b h. lit< tt) r
      ∙ every_same 8 (λ b. eqb (flag b) 128) legal_byte flag_legal r

-- as the code has it: each lane's seven low bits, its high bit, and "/"
pub marks_law : (v : ℕ) → v < 2 ^ 64
    → marked (bit_and (bit_or (bit_and v 0x7f7f7f7f7f7f7f7f + 0x7f7f7f7f7f7f7f7f) v)
    (bit_or (bit_and (bit_xor v 0x2f2f2f2f2f2f2f2f) 0x7f7f7f7f7f7f7f7f + 0x7f7f7f7f7f7f7f7f) (bit_xor v 0x2f2f2f2f2f2f2f2f)))
    ≡ every legal_byte (to_le 8 v)
unfolding marked lanes to_le
marks_law v h =
    marks_lanes (to_le_bytes 8 v) v 0x7f7f7f7f7f7f7f7f 0x2f2f2f2f2f2f2f2f 0x8080808080808080
    (sym (lane_le (to_le 8 v) ∙ le_to_le 8 v h)) refl refl refl
