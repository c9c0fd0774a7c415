use native.Mathlib.Omega.{arith}
use Rattle.name.proofs.Rotation.{rol_or}
use Rattle.name.proofs.rotated.Goals as goal

pub returns : goal.returns
returns c = rol_or c.args.k c.args.h (omega arith) c.ranges.h.fits
