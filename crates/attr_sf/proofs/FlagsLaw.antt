-- Legal flags are 0, 2 and 4, and no other number: one computation over the 256 bytes.
-- Assumes nothing.
use Prim.Native.Nat.{ℕ, ◌≤◌, ◌<◌}
use native.Mathlib.Omega.{arith}
use mathlib.Core.Path.{◌≡◌, sym, ◌∙◌}
use mathlib.Core.Bool.{true, false, ◌||◌}
use lib.Count.{ones, ones_in}
use lib.Dec.{leb, eqb}
use borrow.Author.Tests.{ne_eqb, lt-leb, leb-true, leb-false}
use Rattle.be.proofs.Bools.{by_cases, and_left}
use Rattle.be.proofs.EachByte.{each_byte}
use Rattle.attr_sf.specs.Entry.{legal_flags}
use Rattle.attr_sf.specs.Laws.{FlagsLaw}

of_byte : (g : ℕ) → g < 256 → legal_flags g ≡ (eqb g 0 || (eqb g 2 || eqb g 4))
unfolding legal_flags ones ones_in
of_byte g h = each_byte legal_flags (λ n. eqb n 0 || (eqb n 2 || eqb n 4)) tt g h

-- what is no byte is no flags
pub flags_high : (g : ℕ) → 255 < g → false ≡ legal_flags g
unfolding legal_flags
flags_high g h = rw (lt-leb g 255 h)

pub flags_low : (g : ℕ) → legal_flags g ≡ true → g ≤ 255
unfolding legal_flags
flags_low g h = leb-true g 255 (and_left (leb g 255) _ h)

pub flags_law : FlagsLaw
flags_law g =
    by_cases (leb g 255) (λ q. of_byte g (omega (arith, leb-true g 255 q)))
    (λ q.
    let h : 255 < g = omega (arith, leb-false g 255 q) in
    sym (flags_high g h)
    ∙ sym (rw (ne_eqb g 0 (λ z. omega arith), ne_eqb g 2 (λ z. omega arith), ne_eqb g 4 (λ z. omega arith))))
