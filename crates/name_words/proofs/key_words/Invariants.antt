use Prim.Native.Nat.{◌-◌, ◌/◌, ◌<◌}
use mathlib.Core.Path.{◌≡◌}
use Rattle.be.specs.Bytes.{part}
use Rattle.name_words.specs.Words.{key_from}
use Rattle.name_words.proofs.key_words.Given as goal

abbrev pub invariant-loop-i : goal.invariant-loop-i
invariant-loop-i l =
    (l.i < l.end) × (key_from ((l.end - l.i0 - 1) / 8) l.k0 (part l.i0 (l.end - l.i0) l.b) ≡ key_from ((l.end - l.i - 1) / 8) l.k (part l.i (l.end - l.i) l.b))

abbrev pub decreases-loop-i : goal.decreases-loop-i
decreases-loop-i l = l.end - l.i
