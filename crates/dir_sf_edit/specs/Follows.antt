-- The short form follows the book: one claim, in the words of demand 3, about every list of lookups, inserts and removals, with any names and numbers.
-- Its proof: proofs/FollowsBook.antt.
-- Assumes nothing.
use Rattle.std.specs.Prelude.{ℕ, Bool, true, not, ◌≡◌, List, length}
use Rattle.refusal.specs.Refusal.{FIXED}
use Rattle.be.specs.Codes.{◌unless◌then◌}
use Rattle.be.specs.Lists.{every, same}
use Rattle.be.specs.Bytes.{bytes}
use Rattle.edition.specs.declared.Edition.{Edition}
use Rattle.name.specs.Name.{dot}
use Rattle.dir.specs.Calls.{Call, look_up, insert, remove, Reply, refuse}
use Rattle.dir.specs.Book.{Book, book_reply, book_after, SameBook}
use Rattle.dir.specs.Along.{call_bytes, Along}
use Rattle.dir_sf.specs.Inode.{verdict}
use Rattle.dir_sf_edit.specs.Calls.{reply, after, book_of, room_for}

-- the book's answer to a call on a short form, which holds no ".": looking that up is 12 FIXED
unfoldable pub sf_book_reply : Edition → Book → Bool → Call → Reply
sf_book_reply e k room (look_up n) = refuse FIXED unless not (same n dot) then book_reply e k room (look_up n)
sf_book_reply e k room (insert n t) = book_reply e k room (insert n t)
sf_book_reply e k room (remove n) = book_reply e k room (remove n)

-- the book after call c on directory b: it is told whether the room rule finds room in the directory that the call gets
abbrev pub book_next : Edition → ℕ → Book → List ℕ → Call → Book
book_next e told k b c = book_after e k (room_for e told b c) c

-- one call c on directory b, with book k
pub record CallRight (e : Edition) (told : ℕ) (k : Book) (b : List ℕ) (c : Call) : Type 0 where
  -- the answer is the book's
  pub answers : reply e told b c ≡ sf_book_reply e k (room_for e told b c) c
  -- what is left is accepted, and the inode is as long as before
  pub accepted : verdict e told (after e told b c) ≡ 0
  pub lengths : length (after e told b c) ≡ length b
  -- its names and numbers are the book's, order left out
  pub listed : SameBook (book_of e (after e told b c)) (book_next e told k b c)

-- every accepted short form, told its block size, and every list of calls, refused ones among them; the book starts as the directory's names
-- and numbers, and each call gets the directory and the book that the one before left
unfoldable pub FollowsBook : Edition → Type 0
FollowsBook e =
    (told : ℕ) (b : List ℕ) → bytes b ≡ true → verdict e told b ≡ 0
    → (cs : List Call) → every call_bytes cs ≡ true → Along (CallRight e told) (book_next e told) (after e told) (book_of e b) b cs
