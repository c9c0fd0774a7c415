use mathlib.Core.Path.{refl}
use Rattle.dinode.specs.Core.{inode_size}
use Rattle.dinode.proofs.sized.Goals as goal

pub returns : goal.returns
unfolding inode_size
returns c = refl
