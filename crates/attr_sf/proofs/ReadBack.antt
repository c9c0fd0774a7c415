-- Entries written one after the other are read back.
-- Assumes nothing.
use Prim.Native.Nat.{ℕ, ◌+◌}
use native.Mathlib.Omega.{arith}
use mathlib.Core.Path.{◌≡◌, refl, sym, ◌∙◌}
use mathlib.Core.List.{List, ◌∷◌, ◌++◌, append_assoc}
use lib.ListN.{length, length-append}
use lib.Seq.{drop_at, take-append_seam}
use Rattle.be.specs.Bytes.{byte}
use Rattle.records.specs.Records.{start}
use Rattle.records.proofs.Joined.{drop_behind, byte_behind, joined_ends, joined_read, all_of}
use Rattle.attr_sf.specs.Entry.{Entry, entry_bytes, run}
use Rattle.attr_sf.specs.Fork.{size_at, entry_at, entries}

pub bytes_length : (e : Entry) → length (entry_bytes e) ≡ 3 + length e.name + length e.value
unfolding entry_bytes
bytes_length e = rw (length-append e.name e.value) (omega arith)

-- an entry behind the bytes p
module _ (p d : List ℕ) where
  behind : byte (length p) (p ++ d) ≡ byte 0 d
  behind = byte_behind p d 0 (length p) (omega arith)

  size_behind : size_at (p ++ d) (length p) ≡ size_at d 0
  unfolding size_at
  size_behind = rw (behind, byte_behind p d 1 (length p + 1) refl)

  entry_behind : entry_at (p ++ d) (length p) ≡ entry_at d 0
  unfolding entry_at
  entry_behind =
      rw (
        behind,
        byte_behind p d 1 (length p + 1) refl,
        byte_behind p d 2 (length p + 2) refl,
        drop_behind p d 3 (length p + 3) refl,
        drop_behind p d (3 + byte 0 d) (length p + 3 + byte 0 d) (omega arith),
      )

-- as it was written
module _ (e : Entry) (r : List ℕ) where
  read_size : size_at (entry_bytes e ++ r) 0 ≡ length (entry_bytes e)
  unfolding size_at entry_bytes
  read_size = sym (bytes_length e)

  read_entry : entry_at (entry_bytes e ++ r) 0 ≡ e
  unfolding entry_at entry_bytes
  read_entry =
      let h : List ℕ = length e.name ∷ length e.value ∷ e.flags ∷ e.name in
      rw (append_assoc e.name e.value r, take-append_seam e.name (e.value ++ r), drop_at h (e.value ++ r) (3 + length e.name) (omega arith), take-append_seam e.value r)

sized : (p : List ℕ) (e : Entry) (r : List ℕ) → size_at (p ++ (entry_bytes e ++ r)) (length p) ≡ length (entry_bytes e)
sized p e r = size_behind p (entry_bytes e ++ r) ∙ read_size e r

-- entries end where their bytes do, and are what was written
pub read_ends : (es : List Entry) (p r : List ℕ) → start (size_at (p ++ (run es ++ r))) (length es) (length p) ≡ length p + length (run es)
read_ends es p r = joined_ends entry_bytes size_at sized es p r

pub read_entries : (es : List Entry) (p r : List ℕ) → entries (p ++ (run es ++ r)) (length es) (length p) ≡ es
read_entries es p r =
    joined_read entry_bytes size_at sized entry_at (λ x. Unit {0}) (λ p e r u. entry_behind p (entry_bytes e ++ r) ∙ read_entry e r) es p r (all_of _ (λ x. tt) es)
