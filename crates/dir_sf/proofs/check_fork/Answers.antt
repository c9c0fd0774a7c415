use borrow.Author.Rules.{rules}
use native.Mathlib.Omega.{arith}
use lib.ListN.{length-take}
use Rattle.dir_sf.proofs.Verdicts.{span_under, span_over, span_in, used_in}
use Rattle.dir_sf.proofs.check_fork.Goals as goal

pub returns-then-size-width : goal.returns-then-size-width
returns-then-size-width c = search (rules, span_under)

pub returns-then-f-size : goal.returns-then-f-size
returns-then-f-size c = search (rules, span_over)

pub slice_bounds-check_used-end : goal.slice_bounds-check_used-end
slice_bounds-check_used-end c = simp length-take (omega arith)

pub check_used-requires : goal.check_used-requires
check_used-requires c = (search rules, search (rules, used_in))

pub returns : goal.returns
returns c = search (rules, span_in)
