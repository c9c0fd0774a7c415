use Rattle.be.proofs.Writes.{put_halves}
use Rattle.be.proofs.put64.Goals as goal

pub returns : goal.returns
returns c =
    cc (put_halves _ _ 4 4 _)
