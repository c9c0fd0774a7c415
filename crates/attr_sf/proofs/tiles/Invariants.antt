use Rattle.attr_sf.proofs.Tiling.{Tiles}
use Rattle.attr_sf.proofs.tiles.Given as goal

abbrev pub invariant-loop : goal.invariant-loop
invariant-loop l = Tiles l.f l.end l.n l.counter l.at
