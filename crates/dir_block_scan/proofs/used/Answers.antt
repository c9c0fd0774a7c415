use Prim.Native.Nat.{ℕ, ◌+◌, ◌-◌}
use native.Mathlib.Omega.{arith}
use mathlib.Core.Path.{◌∙◌, ap, ap₂}
use mathlib.Core.List.{List}
use lib.Dec.{leb}
use borrow.Author.Tests.{leb-true}
use Rattle.be.proofs.Bools.{and_right}
use Rattle.dir_block_rules.specs.Verdict.{Pair, pair}
use Rattle.dir_block_laws.specs.BestSoFar.{ins}
use Rattle.dir_block_scan.specs.Table.{three}
use Rattle.dir_block_scan.proofs.TableStored.{used_a, used_t, used_b, used_c, used_d}
use Rattle.dir_block_scan.proofs.used.Goals as goal

pub used_other-requires : goal.used_other-requires
used_other-requires c =
    (c.if-n-g.true, c.requires.l1_bound.0 (omega (arith, c.if-n-g.true, c.requires.n_nonzero.0)))

pub returns-then-n-g : goal.returns-then-n-g
returns-then-n-g c =
    used_c c.args.n _ _ _ _ _ _ _ c.if-stale-eq0.true c.if-n-g.true
    (c.with_gap.ensures.1 ∙ ap₂ (λ (k : ℕ) (l : List Pair). ins (pair c.args.g.last.at k) l) c.saturating_sub-k.ensures c.used_other.ensures)

pub returns-then-stale-eq0 : goal.returns-then-stale-eq0
returns-then-stale-eq0 c =
    let n = c.args.n in
    used_d n _ _ _ _ _ _ _ c.if-stale-eq0.true (omega (arith, c.if-n-g.false))
    (c.with_gap-then-stale-eq0.ensures.1
    ∙ ap (λ (p : Pair). ins p (three c.args.g)) (c.past.ensures ∙ ap (λ (k : ℕ). pair (c.args.g.last.at + n) (k - n)) c.saturating_sub-k.ensures))

pub used_other-requires-then-g-n : goal.used_other-requires-then-g-n
used_other-requires-then-g-n c =
    let g = c.args.g in
    let fit = leb-true c.args.n g.first.len (and_right (leb g.last.len g.first.len) (leb c.args.n g.first.len) c.if-g-n.true) in
    (fit, c.requires.l1_bound.0 (omega (arith, fit, c.requires.n_nonzero.0)))

pub returns-then-g-n : goal.returns-then-g-n
returns-then-g-n c =
    used_a c.args.n _ _ _ _ _ _ _ (omega (arith, c.if-stale-eq0.false)) c.if-g-n.true
    (c.with_gap-then-g-n.ensures.1 ∙ ap (ins (pair c.args.g.last.at c.args.g.last.len)) c.used_other-then-g-n.ensures)

pub returns-then-n-g-2 : goal.returns-then-n-g-2
returns-then-n-g-2 c =
    used_t c.args.n _ _ _ _ _ _ _ (omega (arith, c.if-stale-eq0.false)) c.if-g-n.false c.if-n-g-2.true
    (c.with_gap-then-n-g-2.ensures.1 ∙ ap (λ (p : Pair). ins p (three c.args.g)) c.past-then-n-g-2.ensures)

pub returns : goal.returns
returns c =
    let n = c.args.n in
    used_b n _ _ _ _ _ _ _ (omega (arith, c.if-stale-eq0.false)) c.if-g-n.false (omega (arith, c.if-n-g-2.false))
    (c.with_gap-2.ensures.1 ∙ ap (λ (p : Pair). ins p (three c.args.g)) c.past-2.ensures)
