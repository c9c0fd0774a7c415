use native.Mathlib.Omega.{arith}
use borrow.Author.Tests.{le-leb}
use Rattle.attr_sf.specs.Entry.{legal_flags}
use Rattle.attr_sf.proofs.flags_byte.Goals as goal

pub returns : goal.returns
unfolding legal_flags
returns c = rw (le-leb c.args.f 255 (omega (arith, c.ranges.f.fits)))
