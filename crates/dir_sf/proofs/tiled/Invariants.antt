use Rattle.dir_sf.specs.Entry.{width_of}
use Rattle.dir_sf.proofs.Tests.{Tile}
use Rattle.dir_sf.proofs.tiled.Given as goal

abbrev pub invariant-loop : goal.invariant-loop
invariant-loop l = Tile l.e (width_of l.wides) l.told l.u l.at l.k l.counter l.p l.low
