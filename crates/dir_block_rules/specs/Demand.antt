-- Demand 3: one claim about every list of lookups, inserts and removals, with any names and numbers.
-- Its proof: proofs/Demand3.antt.
-- Assumes nothing.
use Rattle.std.specs.Prelude.{ℕ, ◌≤◌, true, false, ◌≡◌, List, length}
use Rattle.be.specs.Lists.{every}
use Rattle.be.specs.Bytes.{bytes}
use Rattle.edition.specs.declared.Edition.{Edition}
use Rattle.name.specs.Name.{legal_name}
use Rattle.dir_block_rules.specs.Block.{sum_of_parts}
use Rattle.dir.specs.Target.{legal_in}
use Rattle.dir_block_rules.specs.Verdict.{Accepted}
use Rattle.dir.specs.declared.Target.{Target}
use Rattle.dir_block_rules.specs.Room.{has_room}
use Rattle.dir.specs.Calls.{Call, look_up, insert, remove, Reply, done, call_name}
use Rattle.dir_block_rules.specs.Calls.{reply, after, book_of}
use Rattle.dir.specs.Book.{Book, holds, own_held, book_reply, book_after, SameBook}
use Rattle.dir.specs.Along.{call_bytes, Along}

-- right after a removal that is done, any legal absent name that is no longer than the removed one goes in with any legal number other than the
-- directory's own, and any legal type: `left` is the block that call c left, and `answer` what it replied
unfoldable pub Reuse : (e : Edition) (left : List ℕ) (c : Call) (answer : Reply) → Type 0
Reuse e left (look_up n) answer = Unit {0}
Reuse e left (insert n i) answer = Unit {0}
Reuse e left (remove n) answer =
    answer ≡ done → (m : List ℕ) (i : Target) → bytes m ≡ true → legal_name e m ≡ true → legal_in e (own_held e (book_of e left)) i ≡ true
    → holds e m (book_of e left) ≡ false → length m ≤ length n → reply e left (insert m i) ≡ done

-- one call c on block b, with book k
pub record CallRight (e : Edition) (k : Book) (b : List ℕ) (c : Call) : Type 0 where
  -- the answer is the book's, which is told whether the room rule finds room in the block that the call gets
  pub answers : reply e b c ≡ book_reply e k (has_room e b (call_name c)) c
  -- what is left is accepted and as long as before
  pub accepted : Accepted e (after e b c)
  pub lengths : length (after e b c) ≡ length b
  -- its names and numbers are the book's, order left out
  pub listed : SameBook (book_of e (after e b c)) (book_after e k (has_room e b (call_name c)) c)
  -- header, live entries' E, gaps, 8 for each slot and 8 for the tail add up to the length
  pub adds_up : sum_of_parts e (after e b c) ≡ length (after e b c)
  -- freed room serves again
  pub reuse : Reuse e (after e b c) c (reply e b c)

-- the book after call c on block b: it is told whether the room rule finds room in the block that the call gets
abbrev pub book_next : Edition → Book → List ℕ → Call → Book
book_next e k b c = book_after e k (has_room e b (call_name c)) c

-- demand 3: every accepted block and every list of calls, refused ones among them; the book starts as the block's names and numbers,
-- and each call gets the block and the book that the one before left
unfoldable pub Demand3 : Edition → Type 0
Demand3 e =
    (b : List ℕ) → bytes b ≡ true → Accepted e b
    → (cs : List Call) → every call_bytes cs ≡ true → Along (CallRight e) (book_next e) (after e) (book_of e b) b cs
