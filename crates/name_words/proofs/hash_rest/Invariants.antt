use Prim.Native.Nat.{◌-◌, ◌<◌}
use mathlib.Core.Path.{◌≡◌}
use lib.ListN.{length}
use Rattle.be.specs.Bytes.{part}
use Rattle.name.specs.Name.{hash_from}
use Rattle.name_words.proofs.hash_rest.Given as goal

abbrev pub invariant-loop-i : goal.invariant-loop-i
invariant-loop-i l =
    (l.i < length l.s) × (hash_from l.h0 (part l.i0 (length l.s - l.i0) l.s) ≡ hash_from l.h (part l.i (length l.s - l.i) l.s))

abbrev pub decreases-loop-i : goal.decreases-loop-i
decreases-loop-i l = length l.s - l.i
