use Prim.Native.Nat.{ℕ, ◌-◌, ◌≤◌, ◌<◌}
use mathlib.Core.Path.{sym, ap, ◌∙◌}
use native.Mathlib.Omega.{arith}
use lib.ListN.{length}
use Rattle.be.specs.Bytes.{byte, part}
use Rattle.name.specs.Name.{hash_from}
use Rattle.name_words.proofs.MarkedLanes.{marked_none}
use Rattle.name_words.proofs.Overlay.{chunk_turn, hash_none}
use Rattle.name_words.proofs.chunks.Goals as goal

pub loop-i-init : goal.loop-i-init
loop-i-init c = (omega arith, (hash_none _, marked_none _))

pub loop-i-preserved : goal.loop-i-preserved
loop-i-preserved c =
    let a = c.args in
    let l = c.loop-i in
    let k : (n : ℕ) → byte n a.b.now < 256 = λ n. (c.type_inv.b n).fits in
    let f : a.end ≤ length a.b.now = omega arith in
    let p = c.le64-p in
    let q = c.le64-q in
    let r = c.le64-r in
    let s = c.le64-s in
    let z =
    chunk_turn a.b.now k l.i a.end f c.loop-i-test.true
    p.result q.result r.result s.result p.ensures q.ensures r.ensures s.ensures l.u l.v l.x l.y l.m _ _ _ _
    c.marks.ensures c.marks-in-loop-i.ensures c.marks-in-loop-i-2.ensures c.marks-in-loop-i-3.ensures in
    (omega arith, (l.invariant.1.0 ∙ z.0, l.invariant.1.1 ∙ z.1))

pub returns : goal.returns
returns c =
    let a = c.args in
    let l = c.loop-i in
    let e = ap (λ (n : ℕ). hash_from n (part l.i (a.end - l.i) a.b.now)) (sym c.folded-hash.ensures) in
    record { short = l.invariant.0; hashed = l.invariant.1.0 ∙ e; judged = l.invariant.1.1 }
