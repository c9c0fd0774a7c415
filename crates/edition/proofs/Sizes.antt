-- The sizes of entries and of blocks.
-- Assumes nothing.
use Prim.Native.Nat.{ℕ, ◌+◌, ◌%◌, ◌≤◌}
use native.Mathlib.Omega.{arith}
use mathlib.Core.Bool.{Bool, true, ◌&&◌, ◌||◌}
use mathlib.Core.Path.{◌≡◌, refl, subst}
use mathlib.Core.List.{List, ◌∷◌, ◌++◌}
use lib.Dec.{eqb, leb}
use borrow.Author.Tests.{eqb-true, leb-true}
use Rattle.be.specs.Lists.{every}
use Rattle.be.proofs.Bools.{and_left, and_right, or_false}
use Rattle.be.proofs.Splits.{Split, some_split, every_at}
use Rattle.edition.specs.declared.Edition.{Edition}
use Rattle.edition.specs.Edition.{v4, Sane, block_size, block_sizes, entry_size, largest_block}

pub v4_sane : Sane v4
v4_sane =
    record {
      header_eights = refl;
      header_most = omega arith;
      magic_before = omega arith;
      best_inside = omega arith;
      first_after = refl;
      ftype_most = omega arith;
      literal_least = omega arith;
      literal_most = omega arith;
    }

-- ---- E

pub entry_size_least : (e : Edition) (n : ℕ) → 11 + e.ftype + n ≤ entry_size e n
unfolding entry_size
entry_size_least e n = omega arith

pub entry_size_most : (e : Edition) (n : ℕ) → entry_size e n ≤ 18 + e.ftype + n
unfolding entry_size
entry_size_most e n = omega arith

pub entry_size_eights : (e : Edition) (n : ℕ) → entry_size e n % 8 ≡ 0
unfolding entry_size
entry_size_eights e n = omega arith

pub entry_size_mono : (e : Edition) (n m : ℕ) → n ≤ m → entry_size e n ≤ entry_size e m
unfolding entry_size
entry_size_mono e n m h = omega arith

-- ---- the sizes of a block

-- the tests one after the other
pub block_size_is : (n : ℕ)
    → (eqb n 512 || (eqb n 1024 || (eqb n 2048 || (eqb n 4096 || (eqb n 8192 || (eqb n 16384 || (eqb n 32768 || eqb n largest_block))))))) ≡ block_size n
unfolding block_size
block_size_is n = rw (or_false (eqb n largest_block))

-- within the bounds, and a multiple of 8
bounded : ℕ → Bool
bounded n = leb 512 n && (leb n largest_block && eqb (n % 8) 0)

pub block_size_bounds : (n : ℕ) → block_size n ≡ true → (512 ≤ n) × (n ≤ largest_block) × (n % 8 ≡ 0)
unfolding block_size bounded
block_size_bounds n h =
    let s : (s : Split block_sizes) × (eqb n s.here ≡ true) = some_split (eqb n) block_sizes h in
    let k : every bounded (s.0.before ++ s.0.here ∷ s.0.behind) ≡ true = subst (λ (l : List ℕ). every bounded l ≡ true) s.0.is refl in
    let b : bounded n ≡ true = rw (eqb-true n s.0.here s.1) (every_at bounded s.0.before s.0.here s.0.behind k) in
    let r : (leb n largest_block && eqb (n % 8) 0) ≡ true = and_right (leb 512 n) _ b in
    (leb-true 512 n (and_left (leb 512 n) _ b), leb-true n largest_block (and_left (leb n largest_block) _ r), eqb-true (n % 8) 0 (and_right (leb n largest_block) _ r))
