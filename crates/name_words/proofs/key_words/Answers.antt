use Prim.Native.Nat.{ℕ, ◌+◌, ◌≤◌, ◌<◌}
use mathlib.Core.Path.{refl, sym, ◌∙◌}
use native.Mathlib.Omega.{arith}
use lib.ListN.{length}
use Rattle.be.specs.Bytes.{byte}
use Rattle.name_words.proofs.Keys.{key_turn, key_end}
use Rattle.name_words.proofs.key_words.Goals as goal

pub loop-i-init : goal.loop-i-init
loop-i-init c = (omega arith, refl)

pub loop-i-preserved : goal.loop-i-preserved
loop-i-preserved c =
    let a = c.args in
    let l = c.loop-i in
    let k : (n : ℕ) → byte n a.b.now < 256 = λ n. (c.type_inv.b n).fits in
    let f : a.end + 8 ≤ length a.b.now = omega arith in
    let w = c.le64 in
    let t = c.loop-i-test.true in
    (omega arith, l.invariant.1 ∙ key_turn a.b.now k l.i a.end f w.result w.ensures l.k _ t c.mixed-k.ensures)

pub moved-requires : goal.moved-requires
moved-requires c = (omega arith, omega arith)

pub returns : goal.returns
returns c =
    let a = c.args in
    let l = c.loop-i in
    let k : (n : ℕ) → byte n a.b.now < 256 = λ n. (c.type_inv.b n).fits in
    let f : a.end + 8 ≤ length a.b.now = omega arith in
    let w = c.le64-2 in
    key_end a.b.now k l.i a.end f w.result w.ensures l.k _ _ (omega arith) (omega arith) c.moved.ensures c.mixed.ensures
    ∙ sym l.invariant.1
