use Rattle.be.proofs.Writes.{length_put}
use Prim.Native.Nat.{◌+◌, ◌-◌, ◌*◌}
use native.Mathlib.Omega.{arith}
use mathlib.Core.Path.{◌≡◌, refl, sym, ◌∙◌, ap}
use mathlib.Core.List.{List}
use lib.ListN.{length, drop}
use Rattle.be.specs.Lists.{keep}
use Rattle.be.specs.Bytes.{put}
use Rattle.dir_block_rules.specs.Block.{Slot, slots_in, slot_bytes, is_live}
use Rattle.dir_block_index.proofs.LiveSlotsPacked.{live_from, live_few, pack_start, pack_turn, pack_end}
use Rattle.dir_block_index.proofs.pack.Goals as goal

pub loop-i-init : goal.loop-i-init
loop-i-init c =
    (omega arith, (refl, pack_start c.args.b.now c.args.o c.args.k c.args.dst))

pub overflow_mul-i : goal.overflow_mul-i
overflow_mul-i c =
    omega (arith, c.loop-i.invariant, c.requires, live_few c.args.b.now c.args.o c.args.k c.loop-i.i)

pub overflow_add-o : goal.overflow_add-o
overflow_add-o c =
    omega (arith, c.loop-i.invariant, c.requires, live_few c.args.b.now c.args.o c.args.k c.loop-i.i)

pub pack_one-w-requires : goal.pack_one-w-requires
pack_one-w-requires c =
    omega (arith, c.loop-i.invariant, c.requires, live_few c.args.b.now c.args.o c.args.k c.loop-i.i)

pub loop-i-preserved : goal.loop-i-preserved
loop-i-preserved c =
    let l = c.loop-i in
    let w = c.pack_one-w in
    (omega arith, (ap length w.ensures.0 ∙ simp length_put l.invariant.1.0, pack_turn c.args.b.now l.b _ c.args.o c.args.k l.i (l.i - 1) l.w w.result c.args.dst (omega arith) l.invariant.0 c.requires.0 l.invariant.1.1.0 l.invariant.1.1.1 w.ensures.0 w.ensures.1))

pub shape_of-b : goal.shape_of-b
shape_of-b c = c.loop-i.invariant.1.0

pub returns : goal.returns
returns c =
    let l = c.loop-i in
    let z : l.i ≡ 0 = omega arith in
    let q : live_from c.args.b.now c.args.o c.args.k l.i ≡ keep is_live (slots_in c.args.k (drop c.args.o c.args.b.now)) = ap (live_from c.args.b.now c.args.o c.args.k) z ∙ pack_end c.args.b.now c.args.o c.args.k in
    (l.invariant.1.1.0 ∙ ap (λ (m : List Slot). put c.args.b.now l.w (slot_bytes m)) q, ap (λ (m : List Slot). l.w + 8 * length m) (sym q) ∙ l.invariant.1.1.1)
