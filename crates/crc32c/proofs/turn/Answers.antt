use Prim.Native.Nat.{ℕ}
use mathlib.Core.Path.{ap, ◌∙◌}
use native.Mathlib.Omega.{arith}
use lib.Bits.{bit_xor, xor_lt}
use Rattle.crc32c.specs.Crc.{poly_steps}
use Rattle.crc32c.proofs.Slices.{turn_law}
use Rattle.crc32c.proofs.turn.Goals as goal

pub returns : goal.returns
returns c =
    let a = c.args in
    let f = c.ranges in
    let w = c.from in
    turn_law (bit_xor w.result a.w) _ _ _ _ _ _ _ _ (xor_lt 64 w.result a.w (omega arith) f.w.fits)
    c.later.ensures c.later-2.ensures
    c.later-3.ensures c.later-4.ensures
    c.later-5.ensures c.later-6.ensures c.later-7.ensures c.first.ensures
    ∙ ap (λ (x : ℕ). poly_steps 64 (bit_xor x a.w)) w.ensures
