use Prim.Native.Nat.{ℕ, ◌+◌, ◌-◌}
use native.Mathlib.Omega.{arith}
use mathlib.Core.Path.{◌≡◌, ◌∙◌, ap₂}
use Rattle.be.specs.Bytes.{byte, part}
use Rattle.name.specs.Name.{same_name}
use Rattle.dir_block_twice.proofs.same_names.Goals as goal

pub returns : goal.returns
returns c =
    let a = c.args in
    let n : a.p + 9 + c.be8.result - (a.p + 9) ≡ byte (a.p + 8) a.b.now = omega (arith, c.be8.ensures.0) in
    let m : a.q + 9 + c.be8-2.result - (a.q + 9) ≡ byte (a.q + 8) a.b.now = omega (arith, c.be8-2.ensures.0) in
    c.matches.ensures ∙ ap₂ (λ (i j : ℕ). same_name a.e (part (a.p + 9) i a.b.now) (part (a.q + 9) j a.b.now)) n m
