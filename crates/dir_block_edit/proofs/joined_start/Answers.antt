use Prim.Native.Nat.{ℕ, ◌+◌, ◌≤◌, ◌<◌}
use native.Mathlib.Omega.{arith}
use mathlib.Core.Path.{◌≡◌, sym, ◌∙◌}
use mathlib.Core.List.{List}
use lib.ListN.{length}
use Rattle.edition.specs.declared.Edition.{Edition}
use Rattle.dir_block_laws.specs.Tiled.{Tiled}
use Rattle.dir_block_laws.specs.Pass.{EntryAt}
use Rattle.dir_block_laws.proofs.RecordSteps.{end_fits}
use Rattle.dir_block_laws.proofs.GapsBeside.{entry_inside, entry_least, before_none, before_is_gap, before_is_entry, entry_place, prior_at}
use Rattle.dir_block_edit.proofs.joined_start.Goals as goal

inside : (e : Edition) (b : List ℕ) (t : Tiled e b) (o : ℕ) → EntryAt e b o → (e.header ≤ o) × (o + 8 ≤ length b)
inside e b t o w = (entry_least e b t o w, omega (arith, entry_inside e b t o w, end_fits e b t))

above : (h o : ℕ) → h ≤ o → (o ≡ h → ⊥) → h < o
above h o l f = omega arith

pub returns-then-o-e : goal.returns-then-o-e
returns-then-o-e c =
    (sym (before_none _ c.args.b.now c.requires.sane.1 c.args.o c.requires.entry_at c.if-o-e.true), (omega arith, omega (arith, inside _ c.args.b.now c.requires.sane.1 c.args.o c.requires.entry_at)))

pub be16-p-requires : goal.be16-p-requires
be16-p-requires c =
    omega (arith, inside _ c.args.b.now c.requires.sane.1 c.args.o c.requires.entry_at)

pub be16-requires : goal.be16-requires
be16-requires c =
    omega (arith, inside _ c.args.b.now c.requires.sane.1 c.args.o c.requires.entry_at, (prior_at _ c.args.b.now c.requires.sane.1 c.args.o (entry_place _ c.args.b.now c.requires.sane.1 c.args.o c.requires.entry_at) c.be16-p.result (above _ c.args.o (entry_least _ c.args.b.now c.requires.sane.1 c.args.o c.requires.entry_at) c.if-o-e.false) (sym c.be16-p.ensures.0)).ends)

pub returns-then-be16-eq65535 : goal.returns-then-be16-eq65535
returns-then-be16-eq65535 c =
    let r = prior_at _ c.args.b.now c.requires.sane.1 c.args.o (entry_place _ c.args.b.now c.requires.sane.1 c.args.o c.requires.entry_at) c.be16-p.result (above _ c.args.o (entry_least _ c.args.b.now c.requires.sane.1 c.args.o c.requires.entry_at) c.if-o-e.false) (sym c.be16-p.ensures.0) in
    (sym (before_is_gap _ c.args.b.now c.requires.sane.1 c.args.o c.requires.entry_at c.be16-p.result r (sym c.be16.ensures.0 ∙ c.if-be16-eq65535.true)), (omega (arith, r.ends), omega (arith, r.from)))

pub returns : goal.returns
returns c =
    let r = prior_at _ c.args.b.now c.requires.sane.1 c.args.o (entry_place _ c.args.b.now c.requires.sane.1 c.args.o c.requires.entry_at) c.be16-p.result (above _ c.args.o (entry_least _ c.args.b.now c.requires.sane.1 c.args.o c.requires.entry_at) c.if-o-e.false) (sym c.be16-p.ensures.0) in
    (sym (before_is_entry _ c.args.b.now c.requires.sane.1 c.args.o c.requires.entry_at c.be16-p.result r (λ z. c.if-be16-eq65535.false (c.be16.ensures.0 ∙ z))), (omega arith, omega (arith, inside _ c.args.b.now c.requires.sane.1 c.args.o c.requires.entry_at)))
