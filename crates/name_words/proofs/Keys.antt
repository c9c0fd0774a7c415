-- The second hash of a name: a turn of its loop, and the end; both at once.
-- Assumes nothing.
use Prim.Native.Nat.{ℕ, suc, ◌+◌, ◌-◌, ◌*◌, ◌/◌, ◌%◌, ◌^◌, ◌≤◌, ◌<◌}
use mathlib.Core.Path.{◌≡◌, sym, ap, ap₂, ◌∙◌, subst}
use mathlib.Core.Bool.{true, false, ◌&&◌}
use mathlib.Core.List.{List}
use native.Mathlib.Omega.{arith}
use lib.Dec.{eqb, leb, ltb}
use lib.ListN.{length, take, drop}
use borrow.Author.Tests.{eq-eqb, ne_eqb, ltb-true, leb-true}
use Rattle.be.specs.Bytes.{byte, part}
use Rattle.be.specs.Words.{le, to_le}
use Rattle.be.proofs.Bools.{and_left, and_right}
use Rattle.be.proofs.Parts.{part_length, take_part, drop_part}
use Rattle.name_words.specs.Words.{mix, key_from, key_of}
use Rattle.name_words.proofs.WordWalk.{end_word}

module _ (b : List ℕ) (known : (k : ℕ) → byte k b < 256) (i end : ℕ) (fits : end + 8 ≤ length b) (w : ℕ) (ew : w ≡ le (part i 8 b)) where
  abbrev left : ℕ → List ℕ
  left o = part o (end - o) b

  pub key_turn : (k r : ℕ) → 8 < end - i → r ≡ mix k w
      → key_from ((end - i - 1) / 8) k (left i) ≡ key_from ((end - (i + 8) - 1) / 8) r (left (i + 8))
  unfolding key_from
  key_turn k r p e =
      let f : (end - i - 1) / 8 ≡ suc ((end - (i + 8) - 1) / 8) = omega arith in
      let g : end - i - 8 ≡ end - (i + 8) = omega arith in
      let t : take 8 (left i) ≡ part i 8 b = take_part b i (end - i) 8 (omega arith) in
      let d : drop 8 (left i) ≡ left (i + 8) = drop_part b i (end - i) 8 (omega arith) ∙ ap (λ (x : ℕ). part (i + 8) x b) g in
      ap (λ (x : ℕ). key_from x k (left i)) f
      ∙ ap₂ (λ (x : ℕ) (y : List ℕ). key_from ((end - (i + 8) - 1) / 8) x y) (ap (λ (x : List ℕ). mix k (le x)) t ∙ ap (mix k) (sym ew) ∙ sym e) d

  pub key_end : (k v r : ℕ) → i < end → end - i ≤ 8 → v ≡ le (to_le (end - i) w) * 2 ^ (64 - 8 * (end - i)) → r ≡ mix k v
      → r ≡ key_from ((end - i - 1) / 8) k (left i)
  unfolding key_from
  key_end k v r p q ev er =
      let f : (end - i - 1) / 8 ≡ 0 = omega arith in
      let l : length (left i) ≡ end - i = part_length i (end - i) b (omega arith) in
      er ∙ ap (mix k) (ev ∙ ap₂ (λ (x : List ℕ) (y : ℕ). le x * 2 ^ (64 - 8 * y)) (end_word b i end known fits w ew (omega arith) q) (sym l))
      ∙ ap (λ (x : ℕ). key_from x k (left i)) (sym f)

-- one turn and the end: 9 to 16 bytes
pub two_range : (n : ℕ) → (ltb 8 n && leb n 16) ≡ true → (8 < n) × (n ≤ 16)
two_range n h = (ltb-true 8 n (and_left (ltb 8 n) (leb n 16) h), leb-true n 16 (and_right (ltb 8 n) (leb n 16) h))

pub key_of_two : (b : List ℕ) → ((k : ℕ) → byte k b < 256) → (i n : ℕ) → 8 < n → n ≤ 16 → i + n + 8 ≤ length b → (k w u v x r : ℕ)
    → w ≡ le (part i 8 b) → x ≡ mix k w → u ≡ le (part (i + 8) 8 b) → v ≡ le (to_le (n - 8) u) * 2 ^ (64 - 8 * (n - 8)) → r ≡ mix x v
    → r ≡ key_from ((n - 1) / 8) k (part i n b)
key_of_two b known i n p q fits k w u v x r ew ex eu ev er =
    let e : i + n - i ≡ n = omega arith in
    let f : n - 8 ≡ i + n - (i + 8) = omega arith in
    let g : v ≡ le (to_le (i + n - (i + 8)) u) * 2 ^ (64 - 8 * (i + n - (i + 8))) = ev ∙ ap (λ (m : ℕ). le (to_le m u) * 2 ^ (64 - 8 * m)) f in
    subst (λ (m : ℕ). r ≡ key_from ((m - 1) / 8) k (part i m b)) e
    (key_end b known (i + 8) (i + n) fits u eu x v r (omega arith) (omega arith) g er ∙ sym (key_turn b known i (i + n) fits w ew k x (omega arith) ex))

-- the whole key
module _ (b : List ℕ) (i end : ℕ) (p : i ≤ end) (q : end + 8 ≤ length b) where
  long : length (part i (end - i) b) ≡ end - i
  long = part_length i (end - i) b (omega arith)

  pub key_none : end ≤ i → 0 ≡ key_of (part i (end - i) b)
  unfolding key_of
  key_none h = sym (rw (eq-eqb (length (part i (end - i) b)) 0 (long ∙ omega arith)))

  pub key_some : (k r : ℕ) → i < end → k ≡ key_from ((end - i - 1) / 8) (end - i) (part i (end - i) b)
      → r ≡ mix k (k / 4294967296) / 131072 % 4294967296 → r ≡ key_of (part i (end - i) b)
  unfolding key_of
  key_some k r h ek er =
      let l : List ℕ = part i (end - i) b in
      let z : eqb (length l) 0 ≡ false = ne_eqb (length l) 0 (λ (y : length l ≡ 0). omega (arith, long)) in
      let e : k ≡ key_from ((length l - 1) / 8) (length l) l = ek ∙ ap (λ (x : ℕ). key_from ((x - 1) / 8) x l) (sym long) in
      er ∙ ap (λ (x : ℕ). mix x (x / 4294967296) / 131072 % 4294967296) e ∙ sym (rw z)
