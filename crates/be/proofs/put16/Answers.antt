use Rattle.be.proofs.Writes.{put_halves}
use Rattle.be.proofs.put16.Goals as goal

pub returns : goal.returns
returns c =
    cc (put_halves _ _ 1 1 _)
