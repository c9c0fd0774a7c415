use native.Mathlib.Omega.{arith}
use Rattle.dir_block_twice.proofs.NameOrder.{alike_start, alike_word}
use Rattle.dir_block_twice.proofs.same_start.Goals as goal

pub loop-k-init : goal.loop-k-init
loop-k-init c = (alike_start _ _, omega arith)

pub returns-then-le64 : goal.returns-then-le64
returns-then-le64 c = c.loop-k.invariant.0

pub loop-k-preserved : goal.loop-k-preserved
loop-k-preserved c =
    let l = c.loop-k in (
      alike_word _ _ (λ i. (c.type_inv.x i).fits) (λ i. (c.type_inv.y i).fits) l.k _ _ l.invariant.0
          (omega arith) (omega arith) c.le64.ensures c.le64-in-loop-k.ensures c.if-le64.false,
      omega arith,
    )

pub returns : goal.returns
returns c = c.loop-k.invariant.0
