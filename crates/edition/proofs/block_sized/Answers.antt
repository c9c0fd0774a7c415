use Rattle.edition.proofs.Sizes.{block_size_is}
use Rattle.edition.proofs.block_sized.Goals as goal

pub returns : goal.returns
returns c = block_size_is _
