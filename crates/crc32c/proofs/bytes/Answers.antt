use borrow.Author.Rules.{rules}
use native.Mathlib.Omega.{arith}
use Prim.Native.Nat.{ℕ, ◌+◌}
use mathlib.Core.Path.{refl, ap, sym, ◌∙◌}
use lib.ListN.{drop}
use Rattle.crc32c.specs.Crc.{crc_from}
use Rattle.crc32c.proofs.Steps.{from_drop, from_end}
use Rattle.crc32c.proofs.bytes.Goals as goal

pub loop-x-init : goal.loop-x-init
loop-x-init c = (omega arith, refl)

pub next-c-requires : goal.next-c-requires
next-c-requires c = c.requires

pub loop-x-preserved : goal.loop-x-preserved
loop-x-preserved c =
    let l = c.loop-x in
    (omega arith, l.invariant.1 ∙ from_drop l.c l.x-index c.args.s.now (search rules) ∙ ap (λ (x : ℕ). crc_from x (drop (l.x-index + 1) c.args.s.now)) (sym c.next-c.ensures))

pub returns : goal.returns
returns c = sym (c.loop-x.invariant.1 ∙ from_end c.loop-x.c c.loop-x.x-index _ (search rules))
