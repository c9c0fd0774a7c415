use native.Mathlib.Omega.{arith}
use Prim.Native.Nat.{ℕ, ◌+◌, ◌≤◌}
use mathlib.Core.Path.{sym, ◌∙◌, ap}
use mathlib.Core.List.{List}
use lib.ListN.{length}
use Rattle.edition.specs.Edition.{entry_size}
use Rattle.edition.specs.declared.Edition.{Edition}
use Rattle.dir_block_rules.specs.Block.{data_end}
use Rattle.dir_block_laws.specs.Tiled.{Tiled}
use Rattle.dir_block_laws.proofs.RecordSteps.{end_fits}
use Rattle.dir_block_laws.proofs.BothEnds.{front_gap, front_entry}
use Rattle.dir_block_scan.specs.Table.{table}
use Rattle.dir_block_scan.proofs.forward.Goals as goal

-- `dir_block_scan::forward` meets its contract.

-- Assumes nothing.

-- the data ends before the tail
fits : (e : Edition) (b : List ℕ) → Tiled e b → (data_end b + 8 ≤ length b) × (length b ≤ 65536)
fits e b t = (omega (arith, end_fits e b t), t.short)

pub be16-k-requires : goal.be16-k-requires
be16-k-requires c =
    omega (arith, fits _ c.args.b.now c.requires.sane.1, c.requires.gaps_before.1)

pub overflow_add-o : goal.overflow_add-o
overflow_add-o c =
    omega (arith, fits _ c.args.b.now c.requires.sane.1, c.requires.gaps_before.1)

pub be16-l-requires : goal.be16-l-requires
be16-l-requires c =
    omega (arith, fits _ c.args.b.now c.requires.sane.1, c.requires.gaps_before.1)

pub overflow_add-r : goal.overflow_add-r
overflow_add-r c =
    omega (arith, fits _ c.args.b.now c.requires.sane.1, c.requires.gaps_before.1, c.be16-l.ensures)

pub returns-then-k-eq65535 : goal.returns-then-k-eq65535
returns-then-k-eq65535 c =
    let s = front_gap _ c.args.b.now c.requires.sane.1 c.args.f.at c.be16-l.result (table c.args.f) c.requires.gaps_before.0 c.requires.gaps_before.1 (sym c.be16-k.ensures.0 ∙ c.if-k-eq65535.true) (sym c.be16-l.ensures.0) in
    (rw c.with_gap-r.ensures.0 s.0, s.1)

pub overflow_add-o-2 : goal.overflow_add-o-2
overflow_add-o-2 c =
    omega (arith, fits _ c.args.b.now c.requires.sane.1, c.requires.gaps_before.1)

pub be8-c-requires : goal.be8-c-requires
be8-c-requires c =
    omega (arith, fits _ c.args.b.now c.requires.sane.1, c.requires.gaps_before.1)

pub overflow_add-r-2 : goal.overflow_add-r-2
overflow_add-r-2 c =
    omega (arith, fits _ c.args.b.now c.requires.sane.1, c.requires.gaps_before.1, c.entry_size-n.ensures)

pub returns : goal.returns
returns c =
    front_entry _ c.args.b.now c.requires.sane.1 c.args.f.at c.entry_size-n.result (table c.args.f) c.requires.gaps_before.0 c.requires.gaps_before.1 (λ z. c.if-k-eq65535.false (c.be16-k.ensures.0 ∙ z)) (ap (entry_size c.args.e) (sym c.be8-c.ensures.0) ∙ sym c.entry_size-n.ensures.0)
