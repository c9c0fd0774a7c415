-- What code that walks the records of a block takes as given.
-- Assumes nothing.
use Rattle.std.specs.Prelude.{◌≤◌, ℕ, ◌≡◌, true, List, length}
use Rattle.be.specs.Lists.{every}
use Rattle.be.specs.Bytes.{bytes}
use Rattle.edition.specs.declared.Edition.{Edition}
use Rattle.dir_block_rules.specs.Record.{whole}
use Rattle.dir_block_rules.specs.Block.{records}
use Rattle.dir_block_rules.specs.Verdict.{span_ok, Accepted}

-- the spans are right, and whole records fill the data
pub record Tiled (e : Edition) (b : List ℕ) : Type 0 where
  pub are_bytes : bytes b ≡ true
  pub short : length b ≤ 65536
  pub span : span_ok e b ≡ true
  pub wholes : every (whole e) (records e b) ≡ true

-- an accepted block
pub record Ready (e : Edition) (b : List ℕ) : Type 0 where
  pub are_bytes : bytes b ≡ true
  pub ok : Accepted e b
