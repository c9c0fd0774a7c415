use Prim.Native.Nat.{◌-◌, ◌<◌}
use mathlib.Core.Path.{◌≡◌}
use mathlib.Core.Bool.{◌&&◌}
use Rattle.be.specs.Bytes.{part}
use Rattle.be.specs.Lists.{every}
use Rattle.name.specs.Name.{hash_from, legal_byte}
use Rattle.name_words.specs.Words.{marked}
use Rattle.name_words.proofs.Read.words.Given as goal

abbrev pub invariant-loop-i : goal.invariant-loop-i
invariant-loop-i l =
    (l.i < l.end)
    × ((hash_from l.initial.read.hash (part l.i0 (l.end - l.i0) l.b) ≡ hash_from l.read.hash (part l.i (l.end - l.i) l.b))
    × ((marked l.initial.read.marks && every legal_byte (part l.i0 (l.end - l.i0) l.b)) ≡ (marked l.read.marks && every legal_byte (part l.i (l.end - l.i) l.b))))

abbrev pub decreases-loop-i : goal.decreases-loop-i
decreases-loop-i l = l.end - l.i
