use Prim.Native.Nat.{ℕ, ◌-◌, ◌<◌}
use mathlib.Core.Path.{◌≡◌, refl, sym, ap, ◌∙◌}
use native.Mathlib.Omega.{arith}
use lib.Dec.{lit≤}
use lib.ListN.{length}
use Rattle.be.specs.Bytes.{byte, part}
use Rattle.be.specs.Words.{to_le}
use Rattle.be.proofs.Words.{word_bytes}
use Rattle.name.specs.Name.{hash_from}
use Rattle.name_words.proofs.WordWalk.{hash_on}
use Rattle.name_words.proofs.hash_rest.Goals as goal

pub loop-i-init : goal.loop-i-init
loop-i-init c = (omega arith, refl)

pub loop-i-preserved : goal.loop-i-preserved
loop-i-preserved c =
    let a = c.args in
    let l = c.loop-i in
    let k : (n : ℕ) → byte n a.s.now < 256 = λ n. (c.type_inv.s n).fits in
    let w = c.le64 in
    let e : to_le 8 w.result ≡ part l.i 8 a.s.now = word_bytes a.s.now k l.i (omega arith) 8 w.result (lit≤ tt) w.ensures in
    (omega arith, l.invariant.1 ∙ hash_on a.s.now l.i (length a.s.now) 8 (omega arith) l.h _ (c.with_word-h.ensures ∙ ap (hash_from l.h) e))

pub end_word-requires : goal.end_word-requires
end_word-requires c = (omega arith, omega arith, omega arith)

pub with_first-requires : goal.with_first-requires
with_first-requires c = (omega arith, omega arith)

pub returns : goal.returns
returns c =
    let a = c.args in
    let l = c.loop-i in
    let w = c.end_word in
    let o : length a.s.now - (length a.s.now - l.i) ≡ l.i = omega arith in
    let e : to_le (length a.s.now - l.i) w.result ≡ part l.i (length a.s.now - l.i) a.s.now =
    w.ensures ∙ ap (λ (x : ℕ). part x (length a.s.now - l.i) a.s.now) o in
    c.with_first.ensures ∙ ap (hash_from l.h) e ∙ sym l.invariant.1
