use native.Mathlib.Omega.{arith}
use mathlib.Core.Path.{refl, sym, ◌∙◌}
use borrow.Author.Rules.{rules}
use Rattle.name.proofs.Scans.{unlike}
use Rattle.name.proofs.EqualWords.{alike_run, alike_run_not}
use Rattle.name.proofs.equal.Goals as goal

pub returns-then-n-t : goal.returns-then-n-t
returns-then-n-t c = search (rules, unlike)

pub loop-i-init : goal.loop-i-init
loop-i-init c = record { upto = search rules; long = search rules; rest = refl }

pub returns-then-not-equal_32 : goal.returns-then-not-equal_32
returns-then-not-equal_32 c =
    let l = c.loop-i in
    alike_run_not _ _ _ l.i 32 l.invariant (omega arith) (sym c.equal_32.ensures ∙ c.if-not-equal_32.true)

pub loop-i-preserved : goal.loop-i-preserved
loop-i-preserved c =
    let l = c.loop-i in
    alike_run _ _ _ l.i 32 l.invariant (omega arith) (sym c.equal_32.ensures ∙ c.if-not-equal_32.false)

pub equal_words-requires : goal.equal_words-requires
equal_words-requires c =
    let a = c.loop-i.invariant in record { s_len = (a.long, (omega arith, a.upto)); t_value = a.rest }
