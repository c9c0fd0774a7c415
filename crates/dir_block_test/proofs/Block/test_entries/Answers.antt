use Prim.Native.Nat.{ℕ, suc, ◌-◌, ◌≤◌, ◌<◌}
use native.Mathlib.Omega.{arith}
use mathlib.Core.Bool.{Bool, true, false, ◌&&◌}
use mathlib.Core.Path.{◌≡◌, refl, sym, ◌∙◌, ap}
use lib.Dec.{eqb, leb}
use borrow.Author.Tests.{leb-true, leb-false}
use mathlib.Core.List.{List}
use lib.ListN.{length}
use Rattle.edition.specs.declared.Edition.{Edition}
use Rattle.dir_block_test.specs.Passes.{Parts, DataTiled, tile_from, rest}
use Rattle.dir_block_test.proofs.LaterTests.{end_6, end_6', end_7, end_8, end_8', end_index, indexed_ok, room_8, both_there}
use Rattle.dir_block_test.proofs.Block.test_entries.Goals as goal

-- what is said of the first fault, and of an entry's tests before it
failed : {x : Bool} {m n : ℕ} → x ≡ leb m n → x ≡ true → m < suc n
failed {x} {m} {n} h t = let l : m ≤ n = leb-true m n (sym h ∙ t) in omega arith

passes : {x : Bool} {m n : ℕ} → x ≡ leb m n → x ≡ false → suc n ≤ m
passes {x} {m} {n} h f = leb-false m n (sym h ∙ f)

tiled : {e : Edition} {b : List ℕ} {t n : ℕ} → Parts e b t n → tile_from e false (rest e b t (length b) e.header) ≡ true → DataTiled e b t n
tiled p h = record { parts = p; tiles = h }

pub returns-then-fails : goal.returns-then-fails
returns-then-fails c =
    let a = c.args.self in
    let p = c.requires.shown in
    let T = tiled a.parts c.requires.tiles in
    end_6 _ a.sane _ _ _ T _ _ p.3.cells p.3.long a.counted p.0 (c.args.run.good && eqb (a.n - a.m) c.args.survey.entries) (ap (λ (g : Bool). g && eqb (a.n - a.m) c.args.survey.entries) p.1) _ p.3.lowest (failed c.fails.ensures c.if-fails.true)

pub entry_at-requires : goal.entry_at-requires
entry_at-requires c =
    let a = c.args.self in λ h. room_8 _ a.sane _ _ _ (tiled a.parts c.requires.tiles) _ h a.sane.header_eights

pub entry_at-requires-2 : goal.entry_at-requires-2
entry_at-requires-2 c =
    let a = c.args.self in λ h. room_8 _ a.sane _ _ _ (tiled a.parts c.requires.tiles) _ h (omega (arith, a.sane.header_eights))

pub returns-then-not-entry_at : goal.returns-then-not-entry_at
returns-then-not-entry_at c =
    let a = c.args.self in
    let p = c.requires.shown in
    let T = tiled a.parts c.requires.tiles in
    end_6' _ a.sane _ _ _ T _ _ p.3.cells p.3.long a.counted p.0 (c.args.run.good && eqb (a.n - a.m) c.args.survey.entries) (ap (λ (g : Bool). g && eqb (a.n - a.m) c.args.survey.entries) p.1) _ p.3.lowest (passes c.fails.ensures c.if-fails.false) _ (both_there refl c.entry_at.ensures c.entry_at-2.ensures) c.if-not-entry_at.true

pub returns-then-fails-2 : goal.returns-then-fails-2
returns-then-fails-2 c =
    let a = c.args.self in
    let p = c.requires.shown in
    let T = tiled a.parts c.requires.tiles in
    end_7 _ a.sane _ _ _ T _ _ p.3.cells p.3.long a.counted p.0 (c.args.run.good && eqb (a.n - a.m) c.args.survey.entries) (ap (λ (g : Bool). g && eqb (a.n - a.m) c.args.survey.entries) p.1) _ p.3.lowest (passes c.fails.ensures c.if-fails.false) _ (both_there refl c.entry_at.ensures c.entry_at-2.ensures) c.if-not-entry_at.false (failed c.fails-2.ensures c.if-fails-2.true)

pub returns-then-not-run-self : goal.returns-then-not-run-self
returns-then-not-run-self c =
    let a = c.args.self in
    let p = c.requires.shown in
    let T = tiled a.parts c.requires.tiles in
    end_8 _ a.sane _ _ _ T _ _ p.3.cells p.3.long a.counted p.0 (c.args.run.good && eqb (a.n - a.m) c.args.survey.entries) (ap (λ (g : Bool). g && eqb (a.n - a.m) c.args.survey.entries) p.1) _ p.3.lowest (passes c.fails.ensures c.if-fails.false) _ (both_there refl c.entry_at.ensures c.entry_at-2.ensures) c.if-not-entry_at.false (passes c.fails-2.ensures c.if-fails-2.false) c.if-not-run-self.true

pub returns-then-fails-3 : goal.returns-then-fails-3
returns-then-fails-3 c =
    let a = c.args.self in
    let p = c.requires.shown in
    let T = tiled a.parts c.requires.tiles in
    end_8' _ a.sane _ _ _ T _ _ p.3.cells p.3.long a.counted p.0 (c.args.run.good && eqb (a.n - a.m) c.args.survey.entries) (ap (λ (g : Bool). g && eqb (a.n - a.m) c.args.survey.entries) p.1) _ p.3.lowest (passes c.fails.ensures c.if-fails.false) _ (both_there refl c.entry_at.ensures c.entry_at-2.ensures) c.if-not-entry_at.false (passes c.fails-2.ensures c.if-fails-2.false) c.if-not-run-self.false (failed c.fails-3.ensures c.if-fails-3.true)

pub test_best-requires-clause-indexed : goal.test_best-requires-clause-indexed
test_best-requires-clause-indexed c =
    let a = c.args.self in
    let p = c.requires.shown in
    let T = tiled a.parts c.requires.tiles in
    indexed_ok _ a.sane _ _ _ T _ _ p.3.cells p.3.long a.counted p.0 (c.args.run.good && eqb (a.n - a.m) c.args.survey.entries) (ap (λ (g : Bool). g && eqb (a.n - a.m) c.args.survey.entries) p.1) _ p.3.lowest (passes c.fails.ensures c.if-fails.false) _ (both_there refl c.entry_at.ensures c.entry_at-2.ensures) c.if-not-entry_at.false (passes c.fails-2.ensures c.if-fails-2.false) c.if-not-run-self.false (passes c.fails-3.ensures c.if-fails-3.false)

pub returns : goal.returns
returns c =
    let a = c.args.self in
    let p = c.requires.shown in
    let T = tiled a.parts c.requires.tiles in
    end_index _ a.sane _ _ _ T _ _ p.3.cells p.3.long a.counted p.0 (c.args.run.good && eqb (a.n - a.m) c.args.survey.entries) (ap (λ (g : Bool). g && eqb (a.n - a.m) c.args.survey.entries) p.1) _ p.3.lowest (passes c.fails.ensures c.if-fails.false) _ (both_there refl c.entry_at.ensures c.entry_at-2.ensures) c.if-not-entry_at.false (passes c.fails-2.ensures c.if-fails-2.false) c.if-not-run-self.false (passes c.fails-3.ensures c.if-fails-3.false) _ c.test_best.ensures
