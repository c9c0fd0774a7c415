use native.Mathlib.Omega.{arith}
use Rattle.attr_sf.proofs.FlagsLaw.{flags_high}
use Rattle.attr_sf.proofs.flags_legal.Goals as goal

pub returns-in-Err : goal.returns-in-Err
returns-in-Err c = flags_high _ (omega (arith, c.in-Err.ensures))
