-- Every number that a call on a short-form directory gives is 0 or a refusal of the paper's, at most the highest; a file type is one byte at most.
-- Assumes nothing.
use Prim.Native.Nat.{ℕ, zero, suc, ◌+◌, ◌≤◌, ◌<◌}
use native.Mathlib.Omega.{arith}
use mathlib.Core.Bool.{true}
use mathlib.Core.Path.{◌≡◌}
use mathlib.Core.List.{List}
use lib.Dec.{eqb}
use borrow.Author.Tests.{leb-true}
use Rattle.refusal.specs.Refusal.{HIGHEST}
use Rattle.be.specs.Bytes.{byte, bytes, part}
use Rattle.be.specs.Lists.{same}
use Rattle.be.proofs.Bools.{by_cases}
use Rattle.be.proofs.Codes.{unless_le}
use Rattle.records.specs.Records.{places}
use Rattle.edition.specs.declared.Edition.{Edition}
use Rattle.edition.specs.Edition.{Sane}
use Rattle.name.specs.Name.{same_name, dotdot}
use Rattle.dinode.proofs.SmallCodes.{directory_small}
use Rattle.dir.specs.declared.Target.{Target}
use Rattle.dir.proofs.FileTypes.{kind_byte, parent_kind_byte}
use Rattle.dir_sf.specs.Entry.{size_at, entry_at, entries_in}
use Rattle.dir_sf.specs.Fork.{count_of, used_width, parent, entries, used_verdict, fork_verdict}
use Rattle.dir_sf.specs.Change.{entry_in, entry_for, lookup_request, insert_request, remove_request}
use Rattle.dir_sf.specs.Inode.{used, verdict, lookup_code, lookup_target, insert_code, remove_code}
use Rattle.dir_sf.specs.Walk.{step_code}
use Rattle.dir_sf.proofs.Tested.{used_bytes}

fork_small : (e : Edition) (told : ℕ) (f : List ℕ) (size : ℕ) → fork_verdict e told f size ≤ HIGHEST
unfolding fork_verdict used_verdict
fork_small e told f size = search (unless_le, leb-true) depth 8

-- the file type that a lookup reports: an entry's, or the parent's
module _ (e : Edition) (sane : Sane e) where
  entry_type : (w : ℕ) (u n : List ℕ) (k at : ℕ) → bytes u ≡ true → (entry_in e n (entries_in e w u k at)).target.kind < 256
  unfolding entries_in places entry_in entry_at
  entry_type w u n zero at h = omega arith
  entry_type w u n (suc k) at h =
      by_cases (same_name e n (part (at + 3) (byte at u) u))
      (λ q. rw q (kind_byte e sane (at + 3 + byte at u) u h))
      (λ q. rw q (entry_type w u n k (at + size_at e w u at) h))

  pub type_small : (told : ℕ) (b n : List ℕ) → bytes b ≡ true → (lookup_target e told b n).kind < 256
  unfolding lookup_target entry_for entries
  type_small told b n h =
      let u : List ℕ = used e b in
      by_cases (eqb (lookup_code e told b n) 0)
      (λ q.
      by_cases (same n dotdot)
      (λ d. rw (q, d) (parent_kind_byte e (parent (used e b))))
      (λ d. rw (q, d) (entry_type (used_width u) u n (count_of u) (2 + used_width u) (used_bytes e b h))))
      (λ q. rw q (omega arith))

module _ (e : Edition) (told : ℕ) (b : List ℕ) where
  pub verdict_small : verdict e told b ≤ HIGHEST
  unfolding verdict
  verdict_small = search (unless_le, directory_small, fork_small, leb-true)

  pub lookup_small : (n : List ℕ) → lookup_code e told b n ≤ HIGHEST
  unfolding lookup_code lookup_request
  lookup_small n = search (unless_le, verdict_small, leb-true) depth 8

  pub insert_small : (n : List ℕ) (t : Target) → insert_code e told b n t ≤ HIGHEST
  unfolding insert_code insert_request
  insert_small n t = search (unless_le, verdict_small, leb-true) depth 8

  pub remove_small : (n : List ℕ) → remove_code e told b n ≤ HIGHEST
  unfolding remove_code remove_request
  remove_small n = search (unless_le, verdict_small, leb-true) depth 8

  pub step_small : (place : ℕ) → step_code e told b place ≤ HIGHEST
  unfolding step_code
  step_small place = search (unless_le, verdict_small, leb-true)
