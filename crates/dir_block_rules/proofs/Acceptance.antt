-- Acceptance, as the tests that pass.
-- Assumes nothing.
use Prim.Native.Nat.{ℕ}
use mathlib.Core.Bool.{true}
use mathlib.Core.Path.{◌≡◌}
use mathlib.Core.List.{List}
use Rattle.be.proofs.Codes.{passes}
use Rattle.edition.specs.declared.Edition.{Edition}
use Rattle.dir_block_rules.specs.Record.{entries, gaps}
use Rattle.dir_block_rules.specs.Block.{records, slots, stale_of}
use Rattle.dir_block_rules.specs.Verdict.{verdict, Accepted, size_ok, magic_ok, span_ok, tile_ok, names_ok, numbers_ok, index_ok, best_ok, best_pairs, once_ok}

pub record Passed (e : Edition) (b : List ℕ) : Type 0 where
  pub size : size_ok b ≡ true
  pub magic : magic_ok e b ≡ true
  pub span : span_ok e b ≡ true
  pub tile : tile_ok e b ≡ true
  pub names : names_ok e (records e b) ≡ true
  pub numbers : numbers_ok e (records e b) ≡ true
  pub index : index_ok e (records e b) (slots b) (stale_of b) ≡ true
  pub best : best_ok (best_pairs e b) (gaps (records e b)) ≡ true
  pub once : once_ok e (entries (records e b)) ≡ true

pub passed : (e : Edition) (b : List ℕ) → Accepted e b → Passed e b
unfolding verdict
passed e b a =
    let p1 : _ = passes (size_ok b) 0 _ a in
    let p2 : _ = passes (magic_ok e b) 1 _ p1.1 in
    let p4 : _ = passes (span_ok e b) 3 _ p2.1 in
    let p5 : _ = passes (tile_ok e b) 4 _ p4.1 in
    let p6 : _ = passes (names_ok e (records e b)) 5 _ p5.1 in
    let p7 : _ = passes (numbers_ok e (records e b)) 6 _ p6.1 in
    let p8 : _ = passes (index_ok e (records e b) (slots b) (stale_of b)) 7 _ p7.1 in
    let p9 : _ = passes (best_ok (best_pairs e b) (gaps (records e b))) 8 _ p8.1 in
    let p10 : _ = passes (once_ok e (entries (records e b))) 9 _ p9.1 in
    record { size = p1.0; magic = p2.0; span = p4.0; tile = p5.0; names = p6.0; numbers = p7.0; index = p8.0; best = p9.0; once = p10.0 }

pub accepted : (e : Edition) (b : List ℕ) → Passed e b → Accepted e b
unfolding verdict
accepted e b p = rw (p.size, p.magic, p.span, p.tile, p.names, p.numbers, p.index, p.best, p.once)
