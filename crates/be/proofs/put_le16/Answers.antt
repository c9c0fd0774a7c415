use Prim.Native.Nat.{◌/◌}
use Rattle.be.proofs.Words.{put_le_halves, one_byte}
use Rattle.be.proofs.put_le16.Goals as goal

pub returns : goal.returns
returns c =
    let v = c.args.v in
    cc (put_le_halves _ _ 1 1 v, one_byte v, one_byte (v / 256))
