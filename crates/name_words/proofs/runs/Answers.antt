use Prim.Native.Nat.{ℕ, ◌-◌, ◌<◌}
use mathlib.Core.Path.{sym, ap, ◌∙◌}
use native.Mathlib.Omega.{arith}
use lib.ListN.{length}
use Rattle.be.specs.Bytes.{byte, part}
use Rattle.name.specs.Name.{hash_from}
use Rattle.name_words.proofs.Overlay.{chunk_hash, hash_none}
use Rattle.name_words.proofs.runs.Goals as goal

pub loop-i-init : goal.loop-i-init
loop-i-init c = (omega arith, hash_none _)

pub loop-i-preserved : goal.loop-i-preserved
loop-i-preserved c =
    let a = c.args in
    let l = c.loop-i in
    let k : (n : ℕ) → byte n a.s.now < 256 = λ n. (c.type_inv.s n).fits in
    let p = c.le64-u in
    let q = c.le64-v in
    let r = c.le64-x in
    let t = c.le64-y in (
      omega arith,
      l.invariant.1 ∙ chunk_hash a.s.now k l.i (length a.s.now) (omega arith) c.loop-i-test.true
          p.result q.result r.result t.result p.ensures q.ensures r.ensures t.ensures l.u l.v l.x l.y,
    )

pub returns : goal.returns
returns c =
    let a = c.args in
    let l = c.loop-i in
    let e = ap (λ (n : ℕ). hash_from n (part l.i (length a.s.now - l.i) a.s.now)) (sym c.folded-hash.ensures) in
    (l.invariant.0, l.invariant.1 ∙ e)
