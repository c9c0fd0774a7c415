use Prim.Native.Nat.{◌+◌, ◌≤◌, ◌*◌}
use mathlib.Core.Path.{◌≡◌}
use lib.ListN.{length}
use Rattle.be.specs.Bytes.{put}
use Rattle.dir_block_rules.specs.Block.{slot_bytes}
use Rattle.dir_block_index.proofs.LiveSlotsPacked.{live_from}
use Rattle.dir_block_index.proofs.pack.Given as goal

abbrev pub invariant-loop-i : goal.invariant-loop-i
invariant-loop-i l = (l.i ≤ l.k) × ((length l.b ≡ length l.initial.b) × ((l.b ≡ put l.initial.b l.w (slot_bytes (live_from l.initial.b l.o l.k l.i))) × (l.w + 8 * length (live_from l.initial.b l.o l.k l.i) ≡ l.dst)))
