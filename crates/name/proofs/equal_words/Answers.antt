use native.Mathlib.Omega.{arith}
use Rattle.name.proofs.EqualWords.{alike_word, alike_word_not, last_words}
use Rattle.name.proofs.equal_words.Goals as goal

pub loop-i-init : goal.loop-i-init
loop-i-init c =
    record { upto = c.requires.s_len.1.1; long = c.requires.s_len.0; rest = c.requires.t_value }

pub returns-then-le64 : goal.returns-then-le64
returns-then-le64 c =
    let l = c.loop-i in
    alike_word_not _ _ (λ n. (c.type_inv.s n).fits) (λ n. (c.type_inv.t n).fits) _ l.i _ _ l.invariant
    (omega arith) c.le64.ensures c.le64-in-loop-i.ensures c.if-le64.true

pub loop-i-preserved : goal.loop-i-preserved
loop-i-preserved c =
    let l = c.loop-i in
    alike_word _ _ (λ n. (c.type_inv.s n).fits) (λ n. (c.type_inv.t n).fits) _ l.i _ _ l.invariant
    (omega arith) c.le64.ensures c.le64-in-loop-i.ensures c.if-le64.false

pub returns : goal.returns
returns c =
    let l = c.loop-i in
    last_words _ _ (λ n. (c.type_inv.s n).fits) (λ n. (c.type_inv.t n).fits) l.i _ _ l.invariant
    (omega arith) (omega arith) c.le64-2.ensures c.le64-3.ensures
