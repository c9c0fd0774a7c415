use Rattle.std.proofs.Common.{◌≡◌}
use Rattle.dir_block_walker.specs.Place.{nth_place}
use Rattle.dir_block_walker.proofs.nth.Given as goal

-- the walker holds the block, and stands where a walk stands after as many steps
abbrev pub invariant-loop : goal.invariant-loop
invariant-loop l = record {
  holds : l.w.block ≡ l.initial.w.block;
  place : l.w.place ≡ nth_place l.w.block.now l.counter;
}
