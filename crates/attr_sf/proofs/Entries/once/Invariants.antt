use Rattle.attr_sf.proofs.Tiling.{Left}
use Rattle.attr_sf.specs.Entry.{distinct}
use Rattle.attr_sf.specs.Fork.{entries}
use Rattle.attr_sf.proofs.Entries.once.Given as goal

abbrev pub invariant-loop-i : goal.invariant-loop-i
invariant-loop-i l = Left (λ m p. distinct (entries l.self.fork.now m p)) l.self.fork.now l.self.count l.self.from l.i l.at
