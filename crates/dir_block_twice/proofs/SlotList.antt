-- The slots, by their places.
-- Assumes nothing.
use Prim.Native.Nat.{ℕ, suc, ◌+◌, ◌-◌, ◌*◌, ◌≤◌, ◌<◌}
use native.Mathlib.Omega.{arith}
use mathlib.Core.Path.{◌≡◌, sym, ◌∙◌, ap, ap₂}
use mathlib.Core.Bool.{true}
use mathlib.Core.List.{List, [], ◌∷◌}
use lib.Dec.{eqb}
use lib.ListN.{length, take, drop}
use lib.Seq.{drop-drop}
use borrow.Author.Tests.{eqb-true, eqb-false, eq-eqb, ne_eqb}
use Rattle.be.specs.Bytes.{bytes, be, to_be, byte, part, field}
use Rattle.be.specs.Words.{le, to_le}
use Rattle.be.proofs.Bools.{by_cases}
use Rattle.be.proofs.Parts.{part_length, bytes_all, field_bytes}
use Rattle.be.proofs.Words.{bytes_part, to_le_le}
use Rattle.dir_block_rules.specs.Block.{Slot, slot, slots_in}
use Rattle.dir_block_twice.specs.Twice.{slots_from, hash_at, addr_at}

abbrev pub slot_at : List ℕ → ℕ → ℕ → Slot
slot_at b t i = slot (hash_at b t i) (addr_at b t i)

module _ (b : List ℕ) (t n : ℕ) where
  pub slots_next : (i : ℕ) → i < n → slots_from b t n i ≡ slot_at b t i ∷ slots_from b t n (i + 1)
  unfolding slots_from slots_in
  slots_next i h =
      let o : ℕ = t + 8 * i in
      let m : n - i ≡ suc (n - (i + 1)) = omega arith in
      let q : t + 8 * i + 8 ≡ t + 8 * (i + 1) = omega arith in
      ap (λ (k : ℕ). slots_in k (drop o b)) m
      ∙ ap₂ (λ (d f : List ℕ). slot (hash_at b t i) (be (take 4 d)) ∷ slots_in (n - (i + 1)) f)
      (drop-drop 4 o b) (drop-drop 8 o b ∙ ap (λ (k : ℕ). drop k b) q)

  pub slots_end : (i : ℕ) → n ≤ i → slots_from b t n i ≡ []
  unfolding slots_from slots_in
  slots_end i h = let z : n - i ≡ 0 = omega arith in rw z

-- two fields are equal exactly if they are as words
pub same_fields : (b : List ℕ) → ((k : ℕ) → byte k b < 256) → (n o p : ℕ) → o + n ≤ length b → p + n ≤ length b → (w u : ℕ)
    → w ≡ le (part o n b) → u ≡ le (part p n b) → eqb w u ≡ eqb (field o n b) (field p n b)
same_fields b known n o p l r w u ew eu =
    let h : bytes b ≡ true = bytes_all b known in
    by_cases (eqb w u)
    (λ q.
    let m : part o n b ≡ part p n b =
    sym (to_le_le n (bytes_part b known o n) (part_length o n b l))
    ∙ ap (to_le n) (sym ew ∙ eqb-true w u q ∙ eu)
    ∙ to_le_le n (bytes_part b known p n) (part_length p n b r) in
    q ∙ sym (eq-eqb (field o n b) (field p n b) (ap be m)))
    (λ q.
    q ∙ sym (ne_eqb (field o n b) (field p n b) (λ (z : field o n b ≡ field p n b).
    eqb-false w u q (ew ∙ ap le (sym (field_bytes o n b h l) ∙ ap (to_be n) z ∙ field_bytes p n b h r) ∙ sym eu))))
