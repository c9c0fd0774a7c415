use Prim.Native.Nat.{◌-◌}
use mathlib.Core.Bool.{false}
use mathlib.Core.Path.{◌≡◌}
use lib.ListN.{length, get_or}
use Rattle.dir_block_rules.specs.Verdict.{zero_pair}
use Rattle.dir_block_test.specs.Passes.{hint, own_at, fault_of, pair_of}
use Rattle.dir_block_test.proofs.RecordWalk.{Walking}
use Rattle.dir_block_test.proofs.Block.walk.Given as goal

abbrev pub invariant-loop-o : goal.invariant-loop-o
invariant-loop-o l = record {
  long : length l.named ≡ 3;
  walking : Walking l.self.e l.self.b.now l.self.t l.self.e.header (own_at l.self.e l.self.b.now) (hint l.cells) (pair_of l.pairs 0) (pair_of l.pairs 1) (pair_of l.pairs 2)
      (zero_pair (pair_of l.pairs 0)) (zero_pair (pair_of l.pairs 1)) (zero_pair (pair_of l.pairs 2))
      l.o l.after l.entries (fault_of l.fault) (get_or l.named 0 false) (get_or l.named 1 false) (get_or l.named 2 false) l.best;
}

abbrev pub decreases-loop-o : goal.decreases-loop-o
decreases-loop-o l = l.self.t - l.o
