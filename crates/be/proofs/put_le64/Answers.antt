use Rattle.be.proofs.Words.{put_le_halves}
use Rattle.be.proofs.put_le64.Goals as goal

pub returns : goal.returns
returns c =
    cc (put_le_halves _ _ 4 4 _)
