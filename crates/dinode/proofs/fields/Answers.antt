use Rattle.dinode.specs.Core.{core_of}
use Rattle.dinode.proofs.fields.Goals as goal

pub returns : goal.returns
unfolding core_of
returns c = cc
