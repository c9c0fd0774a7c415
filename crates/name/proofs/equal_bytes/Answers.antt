use mathlib.Core.Path.{refl}
use borrow.Author.Rules.{rules}
use Rattle.name.proofs.Scans.{alike_next, alike_not, alike_done}
use Rattle.name.proofs.equal_bytes.Goals as goal

pub loop-i-init : goal.loop-i-init
loop-i-init c = record { upto = search rules; long = search rules; rest = refl }

pub returns-then-s-i : goal.returns-then-s-i
returns-then-s-i c = search (rules, alike_not)

pub loop-i-preserved : goal.loop-i-preserved
loop-i-preserved c = search (rules, alike_next)

pub returns : goal.returns
returns c = search (rules, alike_done)
