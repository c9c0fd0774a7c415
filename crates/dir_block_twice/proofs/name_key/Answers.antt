use Prim.Native.Nat.{ℕ, ◌+◌, ◌-◌}
use native.Mathlib.Omega.{arith}
use mathlib.Core.Path.{◌≡◌, ◌∙◌, ap}
use Rattle.be.specs.Bytes.{byte, part}
use Rattle.name_words.specs.Words.{key_of}
use Rattle.dir_block_twice.proofs.name_key.Goals as goal

pub returns : goal.returns
returns c =
    let a = c.args in
    let n : a.p + 9 + c.be8.result - (a.p + 9) ≡ byte (a.p + 8) a.b.now = omega (arith, c.be8.ensures.0) in
    c.key.ensures.0 ∙ ap (λ (i : ℕ). key_of (part (a.p + 9) i a.b.now)) n
