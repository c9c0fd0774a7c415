use Rattle.std.proofs.Common.{◌/◌, mod-lt, arith}
use Rattle.edit_run.proofs.pick.Goals as goal

pub returns : goal.returns
returns c = omega (arith, mod-lt (c.args.x / 65536) c.requires.0)
