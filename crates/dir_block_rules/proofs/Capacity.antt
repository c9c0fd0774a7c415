-- C6: how many live entries a block holds.
-- Assumes nothing.
use Prim.Native.Nat.{ℕ, ◌+◌, ◌-◌, ◌*◌, ◌/◌, ◌≤◌}
use native.Mathlib.Omega.{arith}
use mathlib.Core.Bool.{true}
use mathlib.Core.Path.{◌≡◌}
use mathlib.Core.List.{List, [], ◌∷◌}
use lib.ListN.{length}
use Rattle.be.specs.Lists.{total}
use Rattle.be.specs.Bytes.{bytes}
use Rattle.edition.specs.declared.Edition.{Edition}
use Rattle.edition.specs.Edition.{v4, entry_size, Sane}
use Rattle.edition.proofs.Sizes.{v4_sane}
use Rattle.dir_block_rules.specs.Record.{Rec, size, entries, gaps, name}
use Rattle.dir_block_rules.specs.Block.{records, slots, sum_of_parts, is_live}
use Rattle.dir_block_rules.specs.Verdict.{Accepted}
use Rattle.dir_block_rules.specs.Claims.{CapacityRight}
use Rattle.dir_block_rules.proofs.GoodParts.{tally_length}
use Rattle.dir_block_rules.proofs.AcceptedParts.{good_of}
use Rattle.dir_block_rules.proofs.PartsAddUp.{adds_up}

size_least : (e : Edition) (n : ℕ) → 16 ≤ entry_size e n
unfolding entry_size
size_least e n = omega arith

total_least : (e : Edition) (es : List Rec) → 16 * length es ≤ total (λ r. entry_size e (length (name r))) es
total_least e [] = omega arith
total_least e (r ∷ es) = omega (arith, size_least e (length (name r)), total_least e es)

-- each live entry takes at least 16 bytes and its slot 8, beside the gaps
pub live_bound : (e : Edition) → Sane e → (b : List ℕ) → bytes b ≡ true → Accepted e b
    → e.header + 24 * length (entries (records e b)) + total size (gaps (records e b)) + 8 ≤ length b
unfolding sum_of_parts
live_bound e sane b h a =
    omega (arith, adds_up e sane b h a, total_least e (entries (records e b)), (good_of e sane b h a).index.lives, tally_length is_live (slots b))

pub capacity_right : (e : Edition) → Sane e → CapacityRight e
unfolding CapacityRight
capacity_right e sane b h a = omega (arith, live_bound e sane b h a)

-- V4: (L - 24) / 24, so 20 at 512, 169 at 4,096 and 2,729 at 65,536
module _ (b : List ℕ) (h : bytes b ≡ true) (a : Accepted v4 b) where
  pub v4_capacity : length (entries (records v4 b)) ≤ (length b - 24) / 24
  unfolding CapacityRight
  v4_capacity = capacity_right v4 v4_sane b h a

  pub at_most_20 : length b ≡ 512 → length (entries (records v4 b)) ≤ 20
  at_most_20 n = rw n at v4_capacity

  pub at_most_169 : length b ≡ 4096 → length (entries (records v4 b)) ≤ 169
  at_most_169 n = rw n at v4_capacity

  pub at_most_2729 : length b ≡ 65536 → length (entries (records v4 b)) ≤ 2729
  at_most_2729 n = rw n at v4_capacity
