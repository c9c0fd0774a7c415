use Prim.Native.Nat.{◌-◌}
use mathlib.Core.Path.{◌≡◌, ap, ◌∙◌}
use native.Mathlib.Omega.{arith}
use Rattle.be.specs.Lists.{every}
use Rattle.be.specs.Bytes.{part}
use Rattle.be.specs.Words.{to_le}
use Rattle.name.specs.Name.{hash_from, legal_byte}
use Rattle.name_words.proofs.WordWalk.{end_word}
use Rattle.name_words.proofs.WholeName.{legal_nothing, hash_nothing, shown}
use Rattle.name_words.proofs.check_in.Goals as goal

pub returns-then-end-i : goal.returns-then-end-i
returns-then-end-i c =
    let t = c.if-end-i.true in (legal_nothing _ _ _ _ t, (hash_nothing _ _ _ _ t, omega arith))

pub returns-then-end-i-le8 : goal.returns-then-end-i-le8
returns-then-end-i-le8 c =
    let a = c.args in
    let s = a.b.now in
    let w = c.le64 in
    let one = c.one_word.ensures in
    let k = c.judged.ensures in
    let e : to_le (a.end - a.i) w.result ≡ part a.i (a.end - a.i) s =
    end_word s a.i a.end (λ n. (c.type_inv.b n).fits) (omega arith) w.result w.ensures
    (omega arith) (omega arith) in
    shown a.e s a.i a.end (omega arith) (omega arith) (omega arith) _ _ _ _ k.0 k.1.0 k.1.1
    (one.0 ∙ ap (hash_from 0) e, one.1 ∙ ap (every legal_byte) e)

pub returns-then-end-i-le16 : goal.returns-then-end-i-le16
returns-then-end-i-le16 c =
    let a = c.args in
    let k = c.judged-then-end-i-le16.ensures in
    shown a.e a.b.now a.i a.end (omega arith) (omega arith) (omega arith) _ _ _ _ k.0 k.1.0 k.1.1 c.two_words.ensures

pub returns : goal.returns
returns c =
    let a = c.args in
    let k = c.judged-2.ensures in
    shown a.e a.b.now a.i a.end (omega arith) (omega arith) (omega arith) _ _ _ _ k.0 k.1.0 k.1.1 c.all_words.ensures
