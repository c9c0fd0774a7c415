use Rattle.attr_sf.proofs.EntryTests.{Passed}
use Rattle.attr_sf.proofs.Entries.check.Given as goal

abbrev pub invariant-loop : goal.invariant-loop
invariant-loop l = Passed l.self.fork.now l.self.count l.self.from l.counter l.at l.flagged
