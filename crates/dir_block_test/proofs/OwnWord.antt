-- The number at a place against that of ".", both as words.
-- Assumes nothing.
use Prim.Native.Nat.{ℕ, ◌+◌, ◌≤◌, ◌<◌}
use mathlib.Core.Bool.{true, false}
use mathlib.Core.Path.{◌≡◌, refl, sym, ◌∙◌, ap, ap₂}
use mathlib.Core.List.{List}
use lib.ListN.{length}
use borrow.Author.Tests.{eq-eqb, ne_eqb}
use Rattle.be.specs.Bytes.{be, to_be, byte, part, field}
use Rattle.be.specs.Words.{le, to_le}
use Rattle.be.proofs.Bools.{or_right, or_false}
use Rattle.be.proofs.Numbers.{to_be_be}
use Rattle.be.proofs.Parts.{part_length}
use Rattle.be.proofs.Words.{bytes_true, bytes_part, to_le_le}
use Rattle.edition.specs.declared.Edition.{Edition}
use Rattle.name.specs.Name.{legal_number, fixed_name}
use Rattle.dir_block_rules.specs.Verdict.{number_fits}

module _ (b : List ℕ) (known : (i : ℕ) → byte i b < 256) (o p : ℕ) (fo : o + 8 ≤ length b) (fp : p + 8 ≤ length b) where
  -- one word, one number
  same_number : le (part o 8 b) ≡ le (part p 8 b) → field o 8 b ≡ field p 8 b
  same_number q =
      ap be (sym (to_le_le 8 (bytes_part b known o 8) (part_length o 8 b fo)) ∙ ap (to_le 8) q ∙ to_le_le 8 (bytes_part b known p 8) (part_length p 8 b fp))

  same_word : field o 8 b ≡ field p 8 b → le (part o 8 b) ≡ le (part p 8 b)
  same_word q =
      ap le (sym (to_be_be (part o 8 b) (bytes_true (bytes_part b known o 8)))
      ∙ ap₂ to_be (part_length o 8 b fo ∙ sym (part_length p 8 b fp)) q
      ∙ to_be_be (part p 8 b) (bytes_true (bytes_part b known p 8)))

  module _ (e : Edition) (n : List ℕ) where
    pub fits_not : legal_number (field o 8 b) ≡ false → false ≡ number_fits e (field p 8 b) n (field o 8 b)
    unfolding number_fits
    fits_not l = sym (rw l)

    module _ (l : legal_number (field o 8 b) ≡ true) where
      pub fits_other : (le (part o 8 b) ≡ le (part p 8 b) → ⊥) → true ≡ number_fits e (field p 8 b) n (field o 8 b)
      unfolding number_fits
      fits_other q = sym (rw (l, ne_eqb (field o 8 b) (field p 8 b) (λ z. q (same_word z))) (or_right (fixed_name n) true refl))

      pub fits_own : le (part o 8 b) ≡ le (part p 8 b) → fixed_name n ≡ number_fits e (field p 8 b) n (field o 8 b)
      unfolding number_fits
      fits_own q = sym (rw (l, eq-eqb (field o 8 b) (field p 8 b) (same_number q)) (or_false (fixed_name n)))
