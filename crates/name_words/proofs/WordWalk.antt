-- The walk over a run of bytes by words: a turn, and the end.
-- Assumes nothing.
use Prim.Native.Nat.{ℕ, zero, suc, ◌+◌, ◌-◌, ◌*◌, ◌/◌, ◌^◌, ◌≤◌, ◌<◌}
use mathlib.Core.Path.{◌≡◌, sym, ap, ap₂, ◌∙◌}
use mathlib.Core.Bool.{Bool, ◌&&◌, and_assoc}
use mathlib.Core.List.{List, ◌++◌}
use native.Mathlib.Nat.{div-one}
use native.Mathlib.Omega.{arith}
use lib.Dec.{lit≤}
use lib.ListN.{length, drop}
use lib.Pow.{shr-shr}
use Rattle.be.specs.Bytes.{byte, part}
use Rattle.be.specs.Lists.{every}
use Rattle.be.specs.Words.{le, to_le}
use Rattle.be.proofs.Bools.{every_append}
use Rattle.be.proofs.Parts.{part_add, drop_part}
use Rattle.be.proofs.Words.{word_bytes}
use Rattle.name.specs.Name.{hash_from, legal_byte}
use Rattle.name.proofs.Hashing.{hash_append}

module _ (b : List ℕ) (i end : ℕ) where
  abbrev left : ℕ → List ℕ
  left o = part o (end - o) b

  -- n bytes, and those behind them
  module _ (n : ℕ) (p : i + n ≤ end) where
    pub split : left i ≡ part i n b ++ left (i + n)
    split =
        let e : end - i ≡ n + (end - (i + n)) = omega arith in
        ap (λ (m : ℕ). part i m b) e ∙ part_add i n (end - (i + n)) b

    pub hash_on : (h r : ℕ) → r ≡ hash_from h (part i n b) → hash_from h (left i) ≡ hash_from r (left (i + n))
    hash_on h r e =
        ap (hash_from h) split ∙ hash_append (part i n b) (left (i + n)) h ∙ ap (λ (m : ℕ). hash_from m (left (i + n))) (sym e)

    pub legal_on : (c t : Bool) → t ≡ (c && every legal_byte (part i n b)) → (c && every legal_byte (left i)) ≡ (t && every legal_byte (left (i + n)))
    legal_on c t e =
        let rest : Bool = every legal_byte (left (i + n)) in
        ap (λ (l : List ℕ). c && every legal_byte l) split
        ∙ ap (λ (x : Bool). c && x) (every_append legal_byte (part i n b) (left (i + n)))
        ∙ sym (and_assoc c (every legal_byte (part i n b)) rest)
        ∙ ap (λ (x : Bool). x && rest) (sym e)

  module _ (known : (k : ℕ) → byte k b < 256) (fits : end + 8 ≤ length b) (w : ℕ) (ew : w ≡ le (part i 8 b)) where
    pub turn : 8 < end - i → (h r : ℕ) (c t : Bool) → r ≡ hash_from h (to_le 8 w) → t ≡ (c && every legal_byte (to_le 8 w))
        → (hash_from h (left i) ≡ hash_from r (left (i + 8))) × ((c && every legal_byte (left i)) ≡ (t && every legal_byte (left (i + 8))))
    turn p h r c t e f =
        let l : to_le 8 w ≡ part i 8 b = word_bytes b known i (omega arith) 8 w (lit≤ tt) ew in (
          hash_on 8 (omega arith) h r (e ∙ ap (hash_from h) l),
          legal_on 8 (omega arith) c t (f ∙ ap (λ (x : List ℕ). c && every legal_byte x) l),
        )

    pub end_word : i ≤ end → end - i ≤ 8 → to_le (end - i) w ≡ left i
    end_word p q = word_bytes b known i (omega arith) (end - i) w q ew

-- the last n bytes of the word before the end
to_le_drop : (m n k w : ℕ) → k ≡ m + n → drop m (to_le k w) ≡ to_le n (w / 2 ^ (8 * m))
unfolding to_le
to_le_drop zero n k w h = let e : k ≡ n = omega arith in ap (λ (j : ℕ). to_le j w) e ∙ ap (to_le n) (sym (div-one w))
to_le_drop (suc m) n zero w h = absurd (omega arith)
to_le_drop (suc m) n (suc k) w h =
    let e : 8 + 8 * m ≡ 8 * suc m = omega arith in
    to_le_drop m n k (w / 256) (omega arith) ∙ ap (to_le n) (shr-shr w 8 (8 * m) ∙ ap (λ (j : ℕ). w / 2 ^ j) e)

pub before_end : (b : List ℕ) → ((k : ℕ) → byte k b < 256) → (n w : ℕ) → n ≤ 8 → 8 ≤ length b → w ≡ le (part (length b - 8) 8 b)
    → to_le n (w / 2 ^ (64 - 8 * n)) ≡ part (length b - n) n b
before_end b known n w p q ew =
    let k : 8 * (8 - n) ≡ 64 - 8 * n = omega arith in
    let o : length b - 8 + (8 - n) ≡ length b - n = omega arith in
    let r : 8 - (8 - n) ≡ n = omega arith in
    sym (to_le_drop (8 - n) n 8 w (omega arith) ∙ ap (λ (j : ℕ). to_le n (w / 2 ^ j)) k)
    ∙ ap (drop (8 - n)) (word_bytes b known (length b - 8) (omega arith) 8 w (lit≤ tt) ew)
    ∙ drop_part b (length b - 8) 8 (8 - n) (omega arith)
    ∙ ap₂ (λ (x y : ℕ). part x y b) o r
