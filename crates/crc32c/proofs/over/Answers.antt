use Prim.Native.Nat.{ℕ, ◌+◌, ◌-◌, ◌*◌, ◌/◌}
use mathlib.Core.Path.{◌≡◌, sym, ap, ◌∙◌}
use native.Mathlib.Omega.{arith}
use lib.ListN.{length, drop, length-drop}
use lib.Seq.{take_all}
use Rattle.crc32c.specs.Crc.{crc_from}
use Rattle.be.proofs.Parts.{bytes_all}
use Rattle.crc32c.proofs.Slices.{turn_on}
use Rattle.crc32c.proofs.over.Goals as goal
use Rattle.crc32c.proofs.over.Goals.{else-loop-i-test, then-loop-i-test+else-whole-i-gt8}

pub loop-i-preserved : goal.loop-i-preserved
loop-i-preserved c =
    let l = c.loop-i in
    let s = c.args.s.now in (
      (omega arith, omega arith),
      l.invariant.1 ∙ turn_on s l.i l.c _ _ (bytes_all s (λ k. (c.type_inv.s k).fits)) (omega arith) c.le64.ensures c.turn-c.ensures,
    )

pub returns : goal.returns
returns c =
    let s = c.args.s.now in
    let l = c.loop-i in
    let w = length s / 8 * 8 in
    c.bytes.ensures ∙ ap (crc_from c.loop-i-test.c) (take_all (length s - w) (drop w s) (rw length-drop (omega arith))) ∙
    elim c.loop-i-test.branch [
      | else-loop-i-test t ↦ (let q : w ≡ l.i = omega (arith, l.invariant.0, t.loop-i-test) in ap (λ (k : ℕ). crc_from c.loop-i-test.c (drop k s)) q ∙ ap (λ (x : ℕ). crc_from x (drop l.i s)) t.c-is ∙ sym l.invariant.1)
      | then-loop-i-test+else-whole-i-gt8 t ↦ (let q : w ≡ l.i + 8 = omega (arith, l.invariant.0, t.loop-i-test) in ap (λ (k : ℕ). crc_from c.loop-i-test.c (drop k s)) q ∙ ap (λ (x : ℕ). crc_from x (drop (l.i + 8) s)) t.c-is
          ∙ sym (l.invariant.1 ∙ turn_on s l.i l.c _ _ (bytes_all s (λ k. (c.type_inv.s k).fits)) (omega (arith, l.invariant.0, t.loop-i-test)) t.le64.ensures t.turn-c.ensures))
    ]
