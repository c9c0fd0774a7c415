use native.Mathlib.Omega.{arith}
use Prim.Native.Nat.{◌+◌}
use mathlib.Core.Path.{sym, ◌∙◌}
use Rattle.be.specs.Bytes.{part}
use Rattle.be.proofs.Words.{le_zero}
use Rattle.dir_block_index.proofs.LiveSlotsPacked.{packed_stale, packed_live}
use Rattle.dir_block_index.proofs.pack_one.Goals as goal

pub returns-then-le32-eq0 : goal.returns-then-le32-eq0
returns-then-le32-eq0 c =
    packed_stale _ _ _ _ (le_zero (part (c.args.o + 4) 4 c.args.b.now) (sym c.le32.ensures.0 ∙ c.if-le32-eq0.true))

pub returns : goal.returns
returns c =
    packed_live _ _ (λ i. (c.slice_known-1.given i).fits) c.args.o _ _ (omega arith) (omega arith) (λ z. c.if-le32-eq0.false (c.le32.ensures.0 ∙ z))
    c.le64-s.ensures c.put_le64.ensures
