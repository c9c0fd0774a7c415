use native.Mathlib.Omega.{arith}
use Prim.Native.Nat.{ℕ, ◌+◌, ◌-◌}
use mathlib.Core.Path.{◌≡◌, ap, ◌∙◌}
use lib.ListN.{length-drop, drop, take}
use Rattle.be.specs.Bytes.{put}
use Rattle.be.proofs.Writes.{paste_put}
use Rattle.be.proofs.move_bytes.Goals as goal

pub returns : goal.returns
returns c =
    let a = c.args in
    let s = drop a.from a.b.now in
    let k : a.from + a.n - a.from ≡ a.n = omega arith in
    c.copy_within.ensures.after ∙ paste_put _ _ _ s (omega arith) (rw length-drop (omega arith)) ∙ ap (λ (m : ℕ). put a.b.now a.to (take m s)) k
