use Prim.Native.Nat.{ℕ, ◌+◌, ◌-◌}
use native.Mathlib.Omega.{arith}
use mathlib.Core.Path.{◌≡◌, ◌∙◌, ap}
use Rattle.be.specs.Bytes.{byte, part}
use Rattle.name.specs.Name.{same_name}
use Rattle.dir_block_lookup.proofs.named.Goals as goal

pub returns : goal.returns
returns c =
    let a = c.args in
    let q : a.o + 9 + c.be8-n.result - (a.o + 9) ≡ byte (a.o + 8) a.b.now = omega arith in
    c.matches.ensures ∙ ap (λ (k : ℕ). same_name a.e a.name.now (part (a.o + 9) k a.b.now)) q
