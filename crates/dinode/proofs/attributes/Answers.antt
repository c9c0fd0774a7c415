use Rattle.dinode.specs.Core.{attributes_ok}
use Rattle.dinode.proofs.attributes.Goals as goal

pub returns : goal.returns
unfolding attributes_ok
returns c = cc
