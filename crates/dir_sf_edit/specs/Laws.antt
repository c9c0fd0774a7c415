-- What is proved of the changes: each law is a proposition about the definitions, over the edition.
-- Assumes nothing.
use Rattle.std.specs.Prelude.{ℕ, ◌≤◌, Bool, true, false, cond, ◌≡◌, List, []}
use Rattle.be.specs.Bytes.{bytes}
use Rattle.edition.specs.declared.Edition.{Edition}
use Rattle.edition.specs.Edition.{block_size}
use Rattle.dir.specs.declared.Target.{Target}
use Rattle.dir.specs.Target.{target, no_target, legal_type, kept_of}
use Rattle.name.specs.Name.{legal_name, legal_number, same_name, fixed_name}
use Rattle.dir_sf.specs.Entry.{SfEntry, is_wide}
use Rattle.dir_sf.specs.Fork.{parent, entries, holds, used_width, lay, lay_fork, fork_verdict}
use Rattle.dir_sf.specs.Change.{target_in}
use Rattle.dir_sf.specs.Inode.{used, verdict, insert_code, remove_code, insert_bytes, remove_bytes}

-- an insert that is done leaves an accepted directory
unfoldable pub InsertAccepted : Edition → Type 0
InsertAccepted e = (told : ℕ) (b n : List ℕ) (to : Target) → bytes b ≡ true → insert_code e told b n to ≡ 0
    → verdict e told (insert_bytes e told b n to) ≡ 0

-- so does a removal
unfoldable pub RemoveAccepted : Edition → Type 0
RemoveAccepted e = (told : ℕ) (b n : List ℕ) → bytes b ≡ true → remove_code e told b n ≡ 0 → verdict e told (remove_bytes e told b n) ≡ 0

-- a directory's parent, and each name with its number and type, after a change: as before but for the name n, which is held or not, and stands for t
pub record Differs (e : Edition) (b c n : List ℕ) (held : Bool) (t : Target) : Type 0 where
  pub same_parent : parent (used e c) ≡ parent (used e b)
  pub names : (m : List ℕ) → holds e m (entries e (used e c)) ≡ cond (same_name e m n) held (holds e m (entries e (used e b)))
  pub targets : (m : List ℕ) → target_in e m (entries e (used e c)) ≡ cond (same_name e m n) t (target_in e m (entries e (used e b)))

-- names and numbers after an insert are those before plus the one
unfoldable pub InsertNames : Edition → Type 0
InsertNames e = (told : ℕ) (b n : List ℕ) (to : Target) → bytes b ≡ true → insert_code e told b n to ≡ 0
    → Differs e b (insert_bytes e told b n to) n true (kept_of e to)

-- after a removal they are those before less the one
unfoldable pub RemoveNames : Edition → Type 0
RemoveNames e = (told : ℕ) (b n : List ℕ) → bytes b ≡ true → remove_code e told b n ≡ 0 → Differs e b (remove_bytes e told b n) n false no_target

-- under a wide parent a fork laid out is wide, whatever its entries: 8 bytes for each number
unfoldable pub WideLaid : Edition → Type 0
WideLaid e = (p : ℕ) (xs : List SfEntry) → is_wide p ≡ true → used_width (lay e p xs) ≡ 8

-- so a directory that is accepted under a wide parent is wide
unfoldable pub WideAccepted : Edition → Type 0
WideAccepted e = (told : ℕ) (b : List ℕ) → verdict e told b ≡ 0 → is_wide (parent (used e b)) ≡ true → used_width (used e b) ≡ 8

-- and is accepted even when empty: laid out it takes 10 bytes, of any fork that has them
unfoldable pub WideEmpty : Edition → Type 0
WideEmpty e = (told fork p : ℕ) → block_size told ≡ true → 10 ≤ fork → legal_number p ≡ true → is_wide p ≡ true
    → fork_verdict e told (lay_fork e fork p []) 10 ≡ 0

-- the removal of a name that is there is done under a wide parent, the last wide entry's too, and stays wide
unfoldable pub RemoveWide : Edition → Type 0
RemoveWide e = (told : ℕ) (b n : List ℕ) → bytes b ≡ true → verdict e told b ≡ 0 → is_wide (parent (used e b)) ≡ true
    → legal_name e n ≡ true → fixed_name n ≡ false → holds e n (entries e (used e b)) ≡ true
    → (remove_code e told b n ≡ 0) × (used_width (used e (remove_bytes e told b n)) ≡ 8)

-- right after a removal that is done the same name with the same number, and any legal type, goes back in, always: if the end has no room, the gap
-- that was left has
unfoldable pub PutBack : Edition → Type 0
PutBack e = (told : ℕ) (b n : List ℕ) (kind : ℕ) → bytes b ≡ true → legal_type e kind ≡ true → remove_code e told b n ≡ 0
    → insert_code e told (remove_bytes e told b n) n (target (target_in e n (entries e (used e b))).inode kind) ≡ 0
