use Rattle.be.proofs.Words.{put_le_halves}
use Rattle.be.proofs.put_le32.Goals as goal

pub returns : goal.returns
returns c =
    cc (put_le_halves _ _ 2 2 _)
