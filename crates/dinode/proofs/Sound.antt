-- What an inode that passes tests 1 to 3 is known to have.
-- Assumes nothing.
use Prim.Native.Nat.{ℕ, ◌+◌, ◌*◌, ◌≤◌}
use native.Mathlib.Omega.{arith}
use mathlib.Core.Bool.{Bool, true, false, cond, ◌||◌}
use mathlib.Core.Path.{◌≡◌, refl}
use mathlib.Core.List.{List}
use lib.Dec.{eqb}
use lib.ListN.{length}
use borrow.Author.Tests.{eqb-true, eqb-false, leb-true}
use Rattle.be.specs.Bytes.{byte}
use Rattle.edition.specs.declared.Edition.{Edition}
use Rattle.be.proofs.Bools.{by_cases, and_right, or_cases}
use Rattle.dinode.specs.Core.{inode_size, version_ok, magic_ok, kind_ok, inode_code, directory_code, attributes_code, directory_ok, attributes_ok, attr_start}

pub size_long : (n : ℕ) → inode_size n ≡ true → (256 ≤ n) × (n ≤ 2048)
unfolding inode_size
size_long n h =
    or_cases ((eqb n 256 || eqb n 512) || eqb n 1024) (eqb n 2048) h
    (λ a. or_cases (eqb n 256 || eqb n 512) (eqb n 1024) a
    (λ d. or_cases (eqb n 256) (eqb n 512) d (λ e. omega (arith, eqb-true n 256 e)) (λ e. omega (arith, eqb-true n 512 e)))
    (λ d. omega (arith, eqb-true n 1024 d))) (λ a. omega (arith, eqb-true n 2048 a))

-- a chain of three tests that ends in 0
passed : (a b d : Bool) → ◌≡◌ {A = ℕ} (cond a (cond b (cond d 0 3) 2) 1) 0 → (a ≡ true) × (b ≡ true) × (d ≡ true)
passed true true true h = (refl, refl, refl)
passed true true false h = absurd (omega arith)
passed true false d h = absurd (omega arith)
passed false b d h = absurd (omega arith)

module _ (e : Edition) (b : List ℕ) where
  -- its length is one of the four
  pub sound_size : inode_code e b ≡ 0 → (256 ≤ length b) × (length b ≤ 2048)
  unfolding inode_code
  sound_size h = size_long (length b) (passed (inode_size (length b)) (magic_ok b) (kind_ok e b) h).0

  -- the attribute fork starts within it
  pub sound_fits : inode_code e b ≡ 0 → e.literal + 8 * byte 82 b ≤ length b
  unfolding inode_code kind_ok attr_start
  sound_fits h = leb-true _ _ (and_right (version_ok e (byte 4 b)) _ (passed (inode_size (length b)) (magic_ok b) (kind_ok e b) h).2)

-- two tests one after the other
first_passed : (n : ℕ) (d : Bool) → cond (eqb n 0) (cond d 0 3) n ≡ 0 → (n ≡ 0) × (d ≡ true)
first_passed n d h = by_cases (eqb n 0) (λ q. (eqb-true n 0 q, go d (rw q at h))) (λ q. absurd (never n q (rw q at h)))
  where
    go : (d : Bool) → ◌≡◌ {A = ℕ} (cond d 0 3) 0 → d ≡ true
    go true h = refl
    go false h = absurd (omega arith)

    never : (n : ℕ) → eqb n 0 ≡ false → n ≡ 0 → ⊥
    never n q h = eqb-false n 0 q h

pub directory_sound : (e : Edition) (b : List ℕ) → directory_code e b ≡ 0 → inode_code e b ≡ 0
unfolding directory_code
directory_sound e b h = (first_passed (inode_code e b) (directory_ok b) h).0

pub attributes_sound : (e : Edition) (b : List ℕ) → attributes_code e b ≡ 0 → inode_code e b ≡ 0
unfolding attributes_code
attributes_sound e b h = (first_passed (inode_code e b) (attributes_ok b) h).0
