use native.Mathlib.Omega.{arith}
use Prim.Native.Nat.{ℕ, ◌+◌, ◌-◌}
use mathlib.Core.Path.{◌≡◌, ap, ◌∙◌}
use lib.ListN.{length-replicate, replicate, length}
use Rattle.be.specs.Bytes.{put, part}
use Rattle.be.proofs.Writes.{lent_put}
use Rattle.be.proofs.Parts.{part_length}
use Rattle.be.proofs.zero.Goals as goal

pub returns : goal.returns
returns c =
    let a = c.args in
    let k : length (part a.o (a.o + a.n - a.o) a.b.now) ≡ a.n = part_length a.o (a.o + a.n - a.o) a.b.now (omega arith) ∙ omega arith in
    let e : c.fill.new.self ≡ replicate a.n 0 = c.fill.ensures.after (λ y q. q) ∙ ap (λ (m : ℕ). replicate m 0) k in
    lent_put _ _ _ _ (omega arith) (ap length e ∙ length-replicate a.n 0 ∙ omega arith) ∙ ap (put a.b.now a.o) e
