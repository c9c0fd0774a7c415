use Prim.Native.Nat.{ℕ, ◌+◌, ◌≤◌}
use native.Mathlib.Omega.{arith}
use mathlib.Core.Path.{◌≡◌, sym, ◌∙◌, ap}
use mathlib.Core.List.{List}
use lib.ListN.{length, get_or}
use Rattle.edition.specs.declared.Edition.{Edition}
use Rattle.edition.specs.Edition.{entry_size}
use Rattle.dir_block_rules.specs.Record.{size}
use Rattle.dir_block_rules.specs.Block.{data_end}
use Rattle.dir_block_laws.specs.Tiled.{Tiled}
use Rattle.dir_block_laws.specs.Pass.{EntryAt}
use Rattle.dir_block_laws.proofs.RecordSteps.{end_fits}
use Rattle.dir_block_laws.proofs.GapsBeside.{entry_long, entry_inside, behind_none, behind_gap, behind_entry}
use Rattle.dir_block_edit.proofs.joined_end.Goals as goal

-- where the entry ends
ends : (e : Edition) (b : List ℕ) (t : Tiled e b) (o u : ℕ) (w : EntryAt e b o) → u ≡ o + entry_size e (get_or b (o + 8) 0) → o + size w.entry ≡ u
ends e b t o u w q = ap (λ (n : ℕ). o + n) (entry_long e b t o w) ∙ sym q

fits : (e : Edition) (b : List ℕ) (t : Tiled e b) (o u : ℕ) (w : EntryAt e b o) → u ≡ o + entry_size e (get_or b (o + 8) 0) → (u ≤ data_end b) × (data_end b + 8 ≤ length b) × (length b ≤ 65536)
fits e b t o u w q = (omega (arith, entry_inside e b t o w, ends e b t o u w q), omega (arith, end_fits e b t), t.short)

pub returns-then-end-u : goal.returns-then-end-u
returns-then-end-u c =
    (sym (behind_none _ c.args.b.now c.requires.sane.1 c.args.o c.requires.entry_at c.args.u (ends _ c.args.b.now c.requires.sane.1 c.args.o c.args.u c.requires.entry_at c.requires.end_value.1) (omega (arith, c.requires.end_value))), (omega arith, omega (arith, fits _ c.args.b.now c.requires.sane.1 c.args.o c.args.u c.requires.entry_at c.requires.end_value.1, c.requires.end_value)))

pub be16-requires : goal.be16-requires
be16-requires c =
    omega (arith, fits _ c.args.b.now c.requires.sane.1 c.args.o c.args.u c.requires.entry_at c.requires.end_value.1, c.requires.end_value)

pub returns-then-be16-ne65535 : goal.returns-then-be16-ne65535
returns-then-be16-ne65535 c =
    (sym (behind_entry _ c.args.b.now c.requires.sane.1 c.args.o c.requires.entry_at c.args.u (ends _ c.args.b.now c.requires.sane.1 c.args.o c.args.u c.requires.entry_at c.requires.end_value.1) (omega (arith, c.requires.end_value)) (λ z. c.if-be16-ne65535.true (c.be16.ensures.0 ∙ z))), (omega arith, omega (arith, fits _ c.args.b.now c.requires.sane.1 c.args.o c.args.u c.requires.entry_at c.requires.end_value.1, c.requires.end_value)))

pub overflow_add-u : goal.overflow_add-u
overflow_add-u c =
    omega (arith, fits _ c.args.b.now c.requires.sane.1 c.args.o c.args.u c.requires.entry_at c.requires.end_value.1, c.requires.end_value)

pub be16-n-requires : goal.be16-n-requires
be16-n-requires c =
    omega (arith, fits _ c.args.b.now c.requires.sane.1 c.args.o c.args.u c.requires.entry_at c.requires.end_value.1, c.requires.end_value)

pub overflow_add-result : goal.overflow_add-result
overflow_add-result c =
    omega (arith, fits _ c.args.b.now c.requires.sane.1 c.args.o c.args.u c.requires.entry_at c.requires.end_value.1, c.requires.end_value)

pub returns : goal.returns
returns c =
    let g = behind_gap _ c.args.b.now c.requires.sane.1 c.args.o c.requires.entry_at c.args.u (ends _ c.args.b.now c.requires.sane.1 c.args.o c.args.u c.requires.entry_at c.requires.end_value.1) (omega (arith, c.requires.end_value)) (sym c.be16.ensures.0 ∙ c.if-be16-ne65535.false) in
    let n = c.be16-n.ensures.0 in
    (ap (λ (k : ℕ). c.args.u + k) n ∙ sym g.0, (omega arith, omega (arith, g.1, n, c.requires.end_value)))
