-- The calls on a block: what each answers, what it leaves, and the book that a block makes.
-- Assumes nothing.
use Rattle.std.specs.Prelude.{ℕ, List, map}
use Rattle.edition.specs.declared.Edition.{Edition}
use Rattle.dir.specs.Calls.{Call, look_up, insert, remove, Reply, found_or, done_or}
use Rattle.dir.specs.Book.{Book, held}
use Rattle.dir_block_rules.specs.Record.{target_of, entries, name}
use Rattle.dir_block_rules.specs.Block.{records}
use Rattle.dir_block_rules.specs.Lookup.{lookup}
use Rattle.dir_block_rules.specs.Change.{insert_code, insert_bytes, remove_code, remove_bytes}

unfoldable pub reply : Edition → List ℕ → Call → Reply
reply e b (look_up n) = found_or (lookup e b n)
reply e b (insert n t) = done_or (insert_code e b n t)
reply e b (remove n) = done_or (remove_code e b n)

-- a lookup leaves the block as it came
unfoldable pub after : Edition → List ℕ → Call → List ℕ
after e b (look_up n) = b
after e b (insert n t) = insert_bytes e b n t
after e b (remove n) = remove_bytes e b n

-- a block's names and numbers are its live entries', each name with its number and file type
unfoldable pub book_of : Edition → List ℕ → Book
book_of e b = map (λ r. held (name r) (target_of e r)) (entries (records e b))
