use Rattle.dinode.specs.Core.{directory_ok}
use Rattle.dinode.proofs.directory.Goals as goal

pub returns : goal.returns
unfolding directory_ok
returns c = cc
