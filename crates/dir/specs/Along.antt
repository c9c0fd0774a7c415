-- The claim over a list of calls, for either directory form.
-- Assumes nothing.
use Rattle.std.specs.Prelude.{ℕ, Bool, List, [], ◌∷◌}
use Rattle.be.specs.Bytes.{bytes}
use Rattle.dir.specs.Calls.{Call, call_name}
use Rattle.dir.specs.Book.{Book}

-- a call's name is a slice of bytes
abbrev pub call_bytes : Call → Bool
call_bytes c = bytes (call_name c)

-- `right k b c` holds of each call c in turn; each gets the bytes b and the book k that the one before left: `after b c` and `book k b c`
module _ (right : Book → List ℕ → Call → Type 0) (book : Book → List ℕ → Call → Book) (after : List ℕ → Call → List ℕ) where
  abbrev pub Along : Book → List ℕ → List Call → Type 0
  Along k b [] = Unit {0}
  Along k b (c ∷ cs) = right k b c × Along (book k b c) (after b c) cs
