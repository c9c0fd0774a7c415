-- A name of 9 to 16 bytes by two words, its first eight bytes and its last eight: what they share is looked at twice.
-- Assumes nothing.
use Prim.Native.Nat.{ℕ, ◌+◌, ◌-◌, ◌≤◌, ◌<◌}
use mathlib.Core.Path.{◌≡◌, refl, sym, ap, ap₂, ◌∙◌}
use mathlib.Core.Bool.{Bool, true, false, ◌&&◌}
use mathlib.Core.List.{List, ◌++◌}
use native.Mathlib.Omega.{arith}
use lib.Dec.{lit≤}
use lib.ListN.{length}
use Rattle.be.specs.Bytes.{byte, part}
use Rattle.be.specs.Lists.{every}
use Rattle.be.specs.Words.{le, to_le}
use Rattle.be.proofs.Bools.{every_append}
use Rattle.be.proofs.Parts.{part_add}
use Rattle.be.proofs.Words.{word_bytes}
use Rattle.name.specs.Name.{hash_from, legal_byte}
use Rattle.name.proofs.Hashing.{hash_append}

-- a middle that both sides have
shared : (x y z : Bool) → ((x && y) && (y && z)) ≡ (x && (y && z))
shared true true z = refl
shared true false z = refl
shared false y z = refl

module _ (b : List ℕ) (known : (k : ℕ) → byte k b < 256) (i end : ℕ) (p : i + 8 < end) (q : end ≤ i + 16) (fits : end ≤ length b)
    (v w : ℕ) (ev : v ≡ le (part i 8 b)) (ew : w ≡ le (part (end - 8) 8 b)) where
  -- n bytes from i on, up to the last eight, and m behind them
  cut : (n m : ℕ) → n ≡ end - 8 - i + m → part i n b ≡ part i (end - 8 - i) b ++ part (end - 8) m b
  cut n m e =
      let f : i + (end - 8 - i) ≡ end - 8 = omega arith in
      ap (λ (k : ℕ). part i k b) e ∙ part_add i (end - 8 - i) m b ∙ ap (λ (o : ℕ). part i (end - 8 - i) b ++ part o m b) f

  last : to_le 8 w ≡ part (end - 8) 8 b
  last = word_bytes b known (end - 8) (omega arith) 8 w (lit≤ tt) ew

  pub two_hash : (h r : ℕ) → h ≡ hash_from 0 (to_le (end - 8 - i) v) → r ≡ hash_from h (to_le 8 w) → r ≡ hash_from 0 (part i (end - i) b)
  two_hash h r eh er =
      er ∙ ap₂ hash_from (eh ∙ ap (hash_from 0) (word_bytes b known i (omega arith) (end - 8 - i) v (omega arith) ev)) last
      ∙ sym (ap (hash_from 0) (cut (end - i) 8 (omega arith)) ∙ hash_append (part i (end - 8 - i) b) (part (end - 8) 8 b) 0)

  pub two_legal : (t : Bool) → t ≡ (every legal_byte (to_le 8 v) && every legal_byte (to_le 8 w)) → t ≡ every legal_byte (part i (end - i) b)
  two_legal t e =
      let m : ℕ = i + 16 - end in
      let L : Bool = every legal_byte (part i (end - 8 - i) b) in
      let M : Bool = every legal_byte (part (end - 8) m b) in
      let R : Bool = every legal_byte (part (end - 8 + m) (8 - m) b) in
      let f : every legal_byte (to_le 8 v) ≡ (L && M) =
      ap (every legal_byte) (word_bytes b known i (omega arith) 8 v (lit≤ tt) ev ∙ cut 8 m (omega arith))
      ∙ every_append legal_byte (part i (end - 8 - i) b) (part (end - 8) m b) in
      let s : 8 ≡ m + (8 - m) = omega arith in
      let g : every legal_byte (part (end - 8) 8 b) ≡ (M && R) =
      ap (λ (k : ℕ). every legal_byte (part (end - 8) k b)) s ∙ ap (every legal_byte) (part_add (end - 8) m (8 - m) b)
      ∙ every_append legal_byte (part (end - 8) m b) (part (end - 8 + m) (8 - m) b) in
      e ∙ ap₂ (λ (x y : Bool). x && y) f (ap (every legal_byte) last ∙ g) ∙ shared L M R
      ∙ sym (ap (every legal_byte) (cut (end - i) 8 (omega arith)) ∙ every_append legal_byte (part i (end - 8 - i) b) (part (end - 8) 8 b)
      ∙ ap (λ (x : Bool). L && x) g)
