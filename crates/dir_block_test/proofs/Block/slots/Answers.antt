use native.Mathlib.Omega.{arith}
use Prim.Native.Nat.{◌≤◌}
use mathlib.Core.Bool.{Bool, true, false, cond}
use mathlib.Core.Path.{◌≡◌, refl, ◌∙◌}
use lib.Dec.{eqb}
use mir.Val.{bool_byte}
use Rattle.dir_block_test.proofs.SlotWalk.{ordering_start, ordering_on, ordering_end, level_end}
use Rattle.dir_block_test.proofs.SlotTable.{cells_on, cells_none, cells_end, cells_long}
use Rattle.dir_block_test.proofs.Block.slots.Goals as goal

one_if : (x : Bool) → bool_byte x ≡ cond x 1 0
one_if true = refl
one_if false = refl

one_most : (x : Bool) → bool_byte x ≤ 1
one_most true = omega arith
one_most false = omega arith

pub loop-i-init : goal.loop-i-init
loop-i-init c = (ordering_start _ _ _ _, cells_none _ _ _)

pub keep-requires : goal.keep-requires
keep-requires c = (c.slot_addr-a.ensures.1, c.slot_hash-h.ensures.1)

pub overflow_add-stale : goal.overflow_add-stale
overflow_add-stale c = omega (arith, c.loop-i.invariant.0.few, c.loop-i.invariant.0.within, c.from-stale.ensures, one_most (eqb c.slot_addr-a.result 0))

pub loop-i-preserved : goal.loop-i-preserved
loop-i-preserved c =
    let l = c.loop-i.invariant in (
      ordering_on _ _ _ _ _ _ _ _ _ l.0 c.loop-i-test.true _ _ _ c.slot_hash-h.ensures.0 c.slot_addr-a.ensures.0 (c.from-stale.ensures ∙ one_if _) (omega (arith, c.from-stale.ensures, one_most (eqb c.slot_addr-a.result 0))),
      cells_on _ _ _ _ _ _ _ _ l.1 c.slot_hash-h.ensures.0 c.slot_addr-a.ensures.0 c.keep.ensures,
    )

pub shape_of-cells : goal.shape_of-cells
shape_of-cells c = cells_long _ _ _ _ _ c.loop-i.invariant.1

pub returns : goal.returns
returns c =
    let l = c.loop-i.invariant in
    let h = c.loop-i-test.false in
    (ordering_end _ _ _ _ _ _ _ _ _ l.0 h, level_end _ _ _ _ _ _ _ _ _ l.0 h, cells_end _ _ _ _ _ _ l.0.within h l.1)
