use native.Mathlib.Omega.{arith}
use borrow.Author.Rules.{rules}
use mathlib.Core.Bool.{not}
use mathlib.Core.Path.{ap}
use Rattle.refusal.proofs.Passed.{code_is}
use Rattle.dir_sf.proofs.Inodes.{told_not, no_fork, fork_in, size_there, fork_lent, tests_all}
use Rattle.dir_sf.proofs.check.Goals as goal

pub returns-then-not-block_sized : goal.returns-then-not-block_sized
returns-then-not-block_sized c = search (rules, told_not)

pub returns-in_err-fork : goal.returns-in_err-fork
returns-in_err-fork c = code_is _ _ c.from_residual.ensures.1
    (no_fork _ _ _ _ _ c.block_sized.ensures (ap not c.if-not-block_sized.false) c.in_err-fork.ensures)

pub overflow_add-end : goal.overflow_add-end
overflow_add-end c = omega (arith, fork_in _ 0 _ _ c.in_ok-fork.ensures c.requires)

pub be64-size-requires : goal.be64-size-requires
be64-size-requires c = size_there _ 0 _ _ c.in_ok-fork.ensures c.requires

pub slice_bounds-check_fork-end : goal.slice_bounds-check_fork-end
slice_bounds-check_fork-end c = omega (arith, fork_in _ 0 _ _ c.in_ok-fork.ensures c.requires)

pub check_fork-requires : goal.check_fork-requires
check_fork-requires c = (c.requires, fork_lent _ 0 _ _ c.in_ok-fork.ensures c.requires)

pub returns : goal.returns
returns c = tests_all _ _ _ _ c.in_ok-fork.ensures _ _ _
    c.block_sized.ensures (ap not c.if-not-block_sized.false) c.be64-size.ensures c.check_fork.ensures
