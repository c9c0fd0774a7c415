use Rattle.records.specs.Records.{stands}
use Rattle.attr_sf.proofs.Tiling.{Left}
use Rattle.attr_sf.specs.Fork.{size_at}
use Rattle.attr_sf.proofs.Entries.stand.Given as goal

abbrev pub invariant-loop : goal.invariant-loop
invariant-loop l = Left (λ m p. stands (size_at l.self.fork.now) m p l.place) l.self.fork.now l.self.count l.self.from l.counter l.at
