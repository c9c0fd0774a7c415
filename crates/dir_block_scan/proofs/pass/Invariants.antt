use Prim.Native.Nat.{◌-◌, ◌≤◌}
use Rattle.dir_block_laws.specs.Pass.{GapsBefore, GapsUpTo}
use Rattle.dir_block_scan.specs.Table.{table}
use Rattle.dir_block_scan.proofs.pass.Given as goal

abbrev pub invariant-loop-f : goal.invariant-loop-f
invariant-loop-f l =
    GapsBefore l.e l.b l.f.at (table l.f) × (GapsUpTo l.e l.b l.v l.g.at (table l.g) × (l.f.at ≤ l.g.at))

abbrev pub decreases-loop-f : goal.decreases-loop-f
decreases-loop-f l =
    l.g.at - l.f.at
