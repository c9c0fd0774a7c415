use Rattle.be.specs.Lists.{same}
use Rattle.name.proofs.Scans.{Alike}
use Rattle.name.proofs.equal_bytes.Given as goal

abbrev pub invariant-loop-i : goal.invariant-loop-i
invariant-loop-i l = Alike (same l.s l.t) l.s l.t l.i
