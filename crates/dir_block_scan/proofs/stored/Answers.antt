use native.Mathlib.Omega.{arith}
use Prim.Native.Nat.{ℕ}
use mathlib.Core.Path.{ap, ◌∙◌}
use Rattle.be.specs.Bytes.{field}
use Rattle.dir_block_rules.proofs.StoredPairs.{pairs_read}
use Rattle.dir_block_scan.proofs.stored.Goals as goal

pub returns : goal.returns
returns c =
    let b = c.args.b.now in
    let q = c.pair_at-2.ensures in
    let s = c.pair_at-3.ensures in
    pairs_read _ b _ _ _ _ _ _ c.pair_at.ensures.0 c.pair_at.ensures.1 q.0 (q.1 ∙ ap (λ (o : ℕ). field o 2 b) (omega arith)) s.0
    (s.1 ∙ ap (λ (o : ℕ). field o 2 b) (omega arith))
