use Rattle.dir_sf.proofs.Inodes.{bounded}
use Rattle.dir_sf.proofs.fork_long.Goals as goal

pub returns : goal.returns
returns c =
    bounded _ c.requires.0 _ c.requires.1 _ c.data_long.ensures
