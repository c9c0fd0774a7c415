use native.Mathlib.Omega.{arith}
use Prim.Native.Nat.{ℕ, ◌+◌, ◌-◌}
use mathlib.Core.Path.{◌≡◌, ◌∙◌, ap₂}
use Rattle.be.specs.Bytes.{byte, part}
use Rattle.dir_block_twice.specs.Twice.{lex}
use Rattle.dir_block_twice.proofs.sooner_at.Goals as goal

pub returns : goal.returns
returns c =
    let a = c.args in
    let n : a.p + 9 + c.be8.result - (a.p + 9) ≡ byte (a.p + 8) a.b.now = omega (arith, c.be8.ensures.0) in
    let m : a.q + 9 + c.be8-2.result - (a.q + 9) ≡ byte (a.q + 8) a.b.now = omega (arith, c.be8-2.ensures.0) in
    c.sooner.ensures ∙ ap₂ (λ (i j : ℕ). lex (part (a.p + 9) i a.b.now) (part (a.q + 9) j a.b.now)) n m
