use Prim.Native.Nat.{◌-◌, ◌<◌}
use mathlib.Core.Path.{◌≡◌}
use mathlib.Core.Bool.{◌&&◌}
use Rattle.be.specs.Bytes.{part}
use Rattle.be.specs.Lists.{every}
use Rattle.name.specs.Name.{hash_from, legal_byte}
use Rattle.name_words.specs.Words.{marked, bytes_32}
use Rattle.name_words.proofs.chunks.Given as goal

abbrev pub invariant-loop-i : goal.invariant-loop-i
invariant-loop-i l =
    (l.i < l.end)
    × ((hash_from 0 (part l.i0 (l.end - l.i0) l.b) ≡ hash_from (hash_from 0 (bytes_32 l.u l.v l.x l.y)) (part l.i (l.end - l.i) l.b))
    × (every legal_byte (part l.i0 (l.end - l.i0) l.b) ≡ (marked l.m && every legal_byte (part l.i (l.end - l.i) l.b))))

abbrev pub decreases-loop-i : goal.decreases-loop-i
decreases-loop-i l = l.end - l.i
