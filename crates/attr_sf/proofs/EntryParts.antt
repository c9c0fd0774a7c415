-- The parts of the inode that an answer names are the entry's own name and value.
-- Assumes nothing.
use Prim.Native.Nat.{◌+◌}
use mathlib.Core.Path.{sym, ap}
use lib.ListN.{take, drop}
use lib.Seq.{drop-drop}
use Rattle.be.specs.Bytes.{byte}
use Rattle.edition.specs.declared.Edition.{Edition}
use Rattle.dinode.specs.Core.{attr_start, attr_fork}
use Rattle.attr_sf.specs.Fork.{entry_at}
use Rattle.attr_sf.specs.Calls.{attr_at}
use Rattle.attr_sf.specs.Laws.{PartsLaw}

pub parts_law : (e : Edition) → PartsLaw e
unfolding attr_at entry_at attr_fork
parts_law e b at = (
  ap (take (byte at (drop (attr_start e b) b))) (sym (drop-drop (at + 3) (attr_start e b) b)),
  ap (take (byte (at + 1) (drop (attr_start e b) b))) (sym (drop-drop (at + 3 + byte at (drop (attr_start e b) b)) (attr_start e b) b)),
)
