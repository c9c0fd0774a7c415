-- The calls on a short-form directory: what each answers, what it leaves, and the book that a directory makes.
-- Assumes nothing.
use Rattle.std.specs.Prelude.{ℕ, Bool, true, List, ◌∷◌, map}
use Rattle.edition.specs.declared.Edition.{Edition}
use Rattle.dinode.specs.Core.{data_length}
use Rattle.dir.specs.Calls.{Call, look_up, insert, remove, Reply, found_or, done_or}
use Rattle.dir.specs.Book.{Book, held}
use Rattle.dir_sf.specs.Fork.{parent, entries}
use Rattle.dir_sf.specs.Change.{parent_entry, has_room}
use Rattle.dir_sf.specs.Inode.{used, lookup, insert_code, insert_bytes, remove_code, remove_bytes}

-- each call is told the directory block size
unfoldable pub reply : Edition → ℕ → List ℕ → Call → Reply
reply e told b (look_up n) = found_or (lookup e told b n)
reply e told b (insert n t) = done_or (insert_code e told b n t)
reply e told b (remove n) = done_or (remove_code e told b n)

-- a lookup leaves the inode as it came
unfoldable pub after : Edition → ℕ → List ℕ → Call → List ℕ
after e told b (look_up n) = b
after e told b (insert n t) = insert_bytes e told b n t
after e told b (remove n) = remove_bytes e told b n

-- a short form's names and numbers are its entries', each name with its number and file type, and the parent's under ".."
unfoldable pub book_of : Edition → List ℕ → Book
book_of e b = map (λ x. held x.name x.target) (parent_entry e (parent (used e b)) ∷ entries e (used e b))

-- whether the room rule finds room for a call in the directory that it gets; only an insert asks
unfoldable pub room_for : Edition → ℕ → List ℕ → Call → Bool
room_for e told b (look_up n) = true
room_for e told b (insert n t) = has_room e told (data_length e b) n t (parent (used e b)) (entries e (used e b))
room_for e told b (remove n) = true
