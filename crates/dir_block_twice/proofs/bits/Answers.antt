use Rattle.dir_block_twice.proofs.SeenKeys.{bits_are}
use Rattle.dir_block_twice.proofs.bits.Goals as goal

pub returns : goal.returns
returns c = bits_are c.args.k
