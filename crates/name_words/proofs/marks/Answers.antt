use native.Mathlib.Omega.{arith}
use lib.Bits.{bit_xor, and_le_r}
use Rattle.name_words.proofs.LegalBytes.{marks_law}
use Rattle.name_words.proofs.marks.Goals as goal

pub overflow_add-result : goal.overflow_add-result
overflow_add-result c = omega (arith, and_le_r c.args.v 0x7f7f7f7f7f7f7f7f)

pub overflow_add-result-2 : goal.overflow_add-result-2
overflow_add-result-2 c = omega (arith, and_le_r (bit_xor c.args.v 0x2f2f2f2f2f2f2f2f) 0x7f7f7f7f7f7f7f7f)

pub returns : goal.returns
returns c = marks_law c.args.v c.ranges.v.fits
