-- A field that is set: the other bytes stay, the test passes, setting it again changes nothing; and a field that passes is one that was set.
-- Assumes nothing.
use Prim.Native.Nat.{ℕ, ◌+◌, ◌≤◌, ◌<◌}
use native.Mathlib.Nat.{le_refl}
use native.Mathlib.Omega.{arith}
use mathlib.Core.Bool.{true}
use mathlib.Core.Path.{◌≡◌, refl, sym, ◌∙◌, ap, ap₂}
use mathlib.Core.List.{List, ◌++◌}
use lib.Dec.{eqb}
use lib.ListN.{length, take, drop}
use lib.Bits.{bit_xor}
use borrow.Author.Tests.{eqb-true, eq-eqb}
use Rattle.be.specs.Bytes.{bytes, part, put}
use Rattle.be.specs.Words.{le, to_le}
use Rattle.be.proofs.BytesStay.{bytes_put}
use Rattle.be.proofs.Words.{length_to_le, bytes_to_le, le_part, le_put}
use Rattle.be.proofs.Writes.{length_put, put_whole, put_same, put_again, take_put, drop_put}
use Rattle.crc32c.specs.Crc.{crc_from, crc_of}
use Rattle.crc32c.specs.Seal.{zeros, sum_at, sealed, seal_ok}
use Rattle.crc32c.proofs.Steps.{from_append, crc_lt}

-- the sum in three runs: before the field, four zeros, behind it
pub sum_in_runs : (at : ℕ) (b : List ℕ) (c d : ℕ) {e : ℕ} → at + 4 ≤ length b
    → c ≡ crc_from 4294967295 (take at b) → d ≡ crc_from c zeros → e ≡ crc_from d (drop (at + 4) b)
    → bit_xor e 4294967295 ≡ crc_of (put b at zeros)
unfolding crc_of
sum_in_runs at b c d {e} h p q r =
    ap (λ (x : ℕ). bit_xor x 4294967295)
    (r ∙ ap (λ (x : ℕ). crc_from x (drop (at + 4) b)) (q ∙ ap (λ (x : ℕ). crc_from x zeros) p)
    ∙ sym (ap (crc_from 4294967295) (put_whole b at zeros h)
    ∙ from_append (take at b) (zeros ++ drop (at + 4) b) 4294967295
    ∙ from_append zeros (drop (at + 4) b) (crc_from 4294967295 (take at b))))

-- the test and the store, as the code makes them
pub ok_law : (at : ℕ) (b : List ℕ) (l w v : ℕ) → l ≡ le (part at 4 b) → w ≡ v → v ≡ crc_of (put b at zeros) → eqb l w ≡ seal_ok at b
unfolding seal_ok sum_at
ok_law at b l w v p q r = ap₂ eqb p (q ∙ r)

pub seal_law : (at : ℕ) (b c : List ℕ) (v w : ℕ) → v ≡ crc_of (put b at zeros) → w ≡ v → c ≡ put b at (to_le 4 w) → c ≡ sealed at b
unfolding sealed sum_at
seal_law at b c v w p r q = q ∙ ap (λ (x : ℕ). put b at (to_le 4 x)) (r ∙ p)

-- ---- what a sealing leaves

pub length_sealed : (at : ℕ) (b : List ℕ) → length (sealed at b) ≡ length b
unfolding sealed
length_sealed at b = length_put b at (to_le 4 (sum_at at b))

pub bytes_sealed : (at : ℕ) (b : List ℕ) → bytes b ≡ true → bytes (sealed at b) ≡ true
unfolding sealed
bytes_sealed at b h = bytes_put b at (to_le 4 (sum_at at b)) h (bytes_to_le 4 (sum_at at b))

pub before_sealed : (at : ℕ) (b : List ℕ) → take at (sealed at b) ≡ take at b
unfolding sealed
before_sealed at b = take_put b at at (to_le 4 (sum_at at b)) (le_refl at)

pub behind_sealed : (at : ℕ) (b : List ℕ) → drop (at + 4) (sealed at b) ≡ drop (at + 4) b
unfolding sealed
behind_sealed at b =
    let n : length (to_le 4 (sum_at at b)) ≡ 4 = length_to_le 4 (sum_at at b) in
    drop_put b (at + 4) at (to_le 4 (sum_at at b)) (omega arith)

-- ---- the field and the sum

-- the sum doesn't see what the field holds
pub sum_put : (at : ℕ) (b xs : List ℕ) → length xs ≡ 4 → sum_at at (put b at xs) ≡ sum_at at b
unfolding sum_at
sum_put at b xs h = ap crc_of (put_again b at xs zeros h)

pub sum_sealed : (at : ℕ) (b : List ℕ) → sum_at at (sealed at b) ≡ sum_at at b
unfolding sealed
sum_sealed at b = sum_put at b (to_le 4 (sum_at at b)) (length_to_le 4 (sum_at at b))

pub sum_lt : (at : ℕ) (b : List ℕ) → bytes b ≡ true → sum_at at b < 4294967296
unfolding sum_at
sum_lt at b h = crc_lt (put b at zeros) (bytes_put b at zeros h refl)

field_sealed : (at : ℕ) (b : List ℕ) → bytes b ≡ true → at + 4 ≤ length b → le (part at 4 (sealed at b)) ≡ sum_at at b
unfolding sealed
field_sealed at b h l = le_put b at 4 (sum_at at b) l (sum_lt at b h)

-- a field that was set passes
pub sealed_passes : (at : ℕ) (b : List ℕ) → bytes b ≡ true → at + 4 ≤ length b → seal_ok at (sealed at b) ≡ true
unfolding seal_ok
sealed_passes at b h l = eq-eqb (le (part at 4 (sealed at b))) (sum_at at (sealed at b)) (field_sealed at b h l ∙ sym (sum_sealed at b))

-- setting it again changes nothing
pub sealed_twice : (at : ℕ) (b : List ℕ) → sealed at (sealed at b) ≡ sealed at b
unfolding sealed
sealed_twice at b =
    let xs : List ℕ = to_le 4 (sum_at at b) in
    ap (λ (v : ℕ). put (put b at xs) at (to_le 4 v)) (sum_put at b xs (length_to_le 4 (sum_at at b))) ∙ put_again b at xs xs refl

-- a field that passes is as it would be set
pub passes_sealed : (at : ℕ) (b : List ℕ) → bytes b ≡ true → at + 4 ≤ length b → seal_ok at b ≡ true → sealed at b ≡ b
unfolding seal_ok sealed
passes_sealed at b h l p =
    ap (λ (v : ℕ). put b at (to_le 4 v)) (sym (eqb-true (le (part at 4 b)) (sum_at at b) p))
    ∙ ap (put b at) (le_part at 4 b h l)
    ∙ put_same b at 4
