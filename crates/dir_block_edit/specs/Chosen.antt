-- What the choice by the room rule leaves: the insert's writes if there is room, and the block as it was if not.
-- Assumes nothing.
use Rattle.std.specs.Prelude.{ℕ, Bool, true, false, List}
use Rattle.be.specs.Bytes.{written}
use Rattle.edition.specs.declared.Edition.{Edition}
use Rattle.dir.specs.declared.Target.{Target}
use Rattle.dir_block_rules.specs.Change.{insert_writes}

abbrev pub chosen : Edition → Bool → List ℕ → List ℕ → Target → List ℕ
chosen e true b n i = written b (insert_writes e b n i)
chosen e false b n i = b
