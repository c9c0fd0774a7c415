use Prim.Native.Nat.{◌*◌, ◌/◌, ◌%◌, ◌^◌}
use lib.Bits.{bit_and, bit_xor}
use mathlib.Core.Path.{refl}
use Rattle.name_words.proofs.HashWords.{hash_word_law, hi_lt}
use Rattle.name_words.proofs.hash_word.Goals as goal

pub overflow_cast-hi : goal.overflow_cast-hi
overflow_cast-hi c =
    let w = c.args.w in
    let v = bit_xor (bit_and w 0x00ff00ff00ff00ff * 2 ^ 7 % 2 ^ 64) (bit_and (w / 2 ^ 8) 0x00ff00ff00ff00ff) in
    record { fits = hi_lt (bit_and v 0x0000ffff0000ffff * 2 ^ 14) (v / 2 ^ 16) }

pub returns : goal.returns
returns c = hash_word_law c.args.w _ _ c.ranges.w.fits refl refl _ c.rotated.ensures
