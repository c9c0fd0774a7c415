use Rattle.refusal.proofs.Passed.{passed_on, given}
use Rattle.dinode.specs.Core.{directory_fork}
use Rattle.dinode.proofs.fork_of_directory.Goals as goal

pub returns-in_err-check_directory : goal.returns-in_err-check_directory
unfolding directory_fork
returns-in_err-check_directory c = passed_on _ _ _ c.from_residual.ensures.1 c.in_err-check_directory.ensures

pub returns : goal.returns
unfolding directory_fork
returns c = rw c.data_long.ensures (given _ c.in_ok-check_directory.ensures)
