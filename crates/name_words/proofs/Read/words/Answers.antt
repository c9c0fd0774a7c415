use Prim.Native.Nat.{ℕ, ◌+◌, ◌-◌, ◌≤◌, ◌<◌}
use mathlib.Core.Path.{◌≡◌, refl, sym, ap, ◌∙◌}
use mathlib.Core.Bool.{◌&&◌}
use mathlib.Core.List.{List}
use native.Mathlib.Omega.{arith}
use lib.ListN.{length}
use Rattle.be.specs.Bytes.{byte, part}
use Rattle.be.specs.Lists.{every}
use Rattle.be.specs.Words.{to_le}
use Rattle.name.specs.Name.{hash_from, legal_byte}
use Rattle.name_words.specs.Words.{marked}
use Rattle.name_words.proofs.WordWalk.{turn, end_word}
use Rattle.name_words.proofs.Read.words.Goals as goal

pub loop-i-init : goal.loop-i-init
loop-i-init c = (omega arith, (refl, refl))

pub loop-i-preserved : goal.loop-i-preserved
loop-i-preserved c =
    let a = c.args in
    let l = c.loop-i in
    let k : (n : ℕ) → byte n a.b.now < 256 = λ n. (c.type_inv.b n).fits in
    let t = c.loop-i-test.true in
    let f : a.end + 8 ≤ length a.b.now = omega arith in
    let w = c.le64 in
    let n = c.next-read.ensures in
    let z = turn a.b.now l.i a.end k f w.result w.ensures t l.read.hash _ (marked l.read.marks) _ n.0 n.1 in
    (omega arith, (l.invariant.1.0 ∙ z.0, l.invariant.1.1 ∙ z.1))

pub last-requires : goal.last-requires
last-requires c = (omega arith, omega arith)

pub returns : goal.returns
returns c =
    let a = c.args in
    let l = c.loop-i in
    let k : (n : ℕ) → byte n a.b.now < 256 = λ n. (c.type_inv.b n).fits in
    let f : a.end + 8 ≤ length a.b.now = omega arith in
    let w = c.le64-2 in
    let e : to_le (a.end - l.i) w.result ≡ part l.i (a.end - l.i) a.b.now =
    end_word a.b.now l.i a.end k f w.result w.ensures (omega arith) (omega arith) in (
      c.last.ensures.0 ∙ ap (hash_from l.read.hash) e ∙ sym l.invariant.1.0,
      c.last.ensures.1 ∙ ap (λ (x : List ℕ). marked l.read.marks && every legal_byte x) e ∙ sym l.invariant.1.1,
    )
