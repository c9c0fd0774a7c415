use Prim.Native.Nat.{ℕ, ◌+◌}
use mathlib.Core.Path.{◌∙◌, ap, ap₂}
use Rattle.be.specs.Bytes.{field}
use Rattle.dir.specs.Target.{target}
use Rattle.dir_block_lookup.proofs.target_at.Goals as goal

pub returns : goal.returns
returns c =
    let a = c.args in
    ap₂ (λ (i k : ℕ). target i k) c.be64-inode.ensures
    (c.kind-kind.ensures ∙ ap (λ (n : ℕ). field (a.o + 9 + n) a.e.ftype a.b.now) c.be8-n.ensures.0)
