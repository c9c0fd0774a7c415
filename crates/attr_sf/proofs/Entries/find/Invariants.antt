use Rattle.attr_sf.proofs.Tiling.{Left}
use Rattle.attr_sf.specs.Fork.{seek}
use Rattle.attr_sf.proofs.Entries.find.Given as goal

abbrev pub invariant-loop : goal.invariant-loop
invariant-loop l = Left (seek l.self.fork.now l.key.name.now l.key.flags) l.self.fork.now l.self.count l.self.from l.counter l.at
