use Prim.Native.Nat.{◌-◌, ◌<◌}
use mathlib.Core.Bool.{false}
use mathlib.Core.Path.{◌≡◌}
use Rattle.dir_block_rules.specs.Block.{records, data_end}
use Rattle.dir_block_rules.specs.Walk.{is_place}
use Rattle.dir_block_laws.specs.Pass.{Place}
use Rattle.dir_block_lookup.proofs.stands.Given as goal

abbrev pub invariant-loop-o : goal.invariant-loop-o
invariant-loop-o l = Place l.e l.b l.o × (l.p < l.o → is_place l.p (data_end l.b) (records l.e l.b) ≡ false)

abbrev pub decreases-loop-o : goal.decreases-loop-o
decreases-loop-o l = l.p - l.o
