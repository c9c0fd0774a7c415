use Prim.Native.Nat.{◌-◌, ◌<◌}
use mathlib.Core.Path.{◌≡◌}
use lib.ListN.{length}
use Rattle.be.specs.Bytes.{part}
use Rattle.name.specs.Name.{hash_from}
use Rattle.name_words.specs.Words.{bytes_32}
use Rattle.name_words.proofs.runs.Given as goal

abbrev pub invariant-loop-i : goal.invariant-loop-i
invariant-loop-i l =
    (l.i < length l.s) × (hash_from 0 (part 0 (length l.s - 0) l.s) ≡ hash_from (hash_from 0 (bytes_32 l.u l.v l.x l.y)) (part l.i (length l.s - l.i) l.s))

abbrev pub decreases-loop-i : goal.decreases-loop-i
decreases-loop-i l = length l.s - l.i
