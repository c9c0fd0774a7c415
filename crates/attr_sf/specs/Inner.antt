-- What the code's inner functions promise: for code and proofs alone, no call that README lists promises anything by these.
-- Assumes nothing.
use Rattle.std.specs.Prelude.{ℕ, ◌+◌, ◌-◌, ◌≡◌, cond, List, ltb, eqb, length, replicate, Option, Some, None, Result}
use Rattle.refusal.specs.Refusal.{NAME, NUMBER, answered}
use Rattle.be.specs.Codes.{◌unless◌then◌}
use Rattle.be.specs.Lists.{every}
use Rattle.be.specs.Bytes.{part, put}
use Rattle.edition.specs.declared.Edition.{Edition}
use Rattle.dinode.specs.Core.{attr_start, attr_length, fork_at}
use Rattle.dinode.specs.declared.Fork.{Fork}
use Rattle.attr_sf.specs.Entry.{Entry, others}
use Rattle.attr_sf.specs.Fork.{totsize, count, stored, size_at, key_place, name_legal_of, flags_legal_of, fork_with}
use Rattle.attr_sf.specs.Calls.{held_request, room_request, set_entries}
use Rattle.attr_sf.specs.declared.Plan.{Plan}

-- tests 6 and 7 of these entries, by number
abbrev pub own_verdict : List Entry → ℕ
own_verdict xs = NAME unless every name_legal_of xs then NUMBER unless every flags_legal_of xs then 0

-- a place, where it is one before the end
abbrev pub place_before : ℕ → ℕ → Option ℕ
place_before end p = cond (ltb p end) (Some p) None

-- where the attribute fork lies, or the tests' number
unfoldable pub fork_if : ℕ → Edition → List ℕ → Result Fork ℕ
fork_if n e b = answered n (fork_at (attr_start e b) (attr_length e b))

-- what a set or a removal reads before it writes: where the entry asked for starts, its size, how many entries are kept, and where they end
unfoldable pub plan_of : List ℕ → List ℕ → ℕ → Plan
plan_of f name flags =
    record {
      at = key_place f name flags;
      size = cond (ltb (key_place f name flags) (totsize f)) (size_at f (key_place f name flags)) 0;
      kept = cond (ltb (key_place f name flags) (totsize f)) (count f - 1) (count f);
      end = totsize f;
    }

-- the fork with s bytes at a place taken out of its entries, and what is unused then zeroed
abbrev pub closed : List ℕ → ℕ → ℕ → ℕ → List ℕ
closed f end at s = put (put f at (part (at + s) (end - (at + s)) f)) (end - s) (replicate (length f - (end - s)) 0)

-- the fork after a change with this number and these entries
unfoldable pub fork_changed : List ℕ → ℕ → List Entry → List ℕ
fork_changed f n xs = cond (eqb n 0) (fork_with f xs) f

-- what a removal and a set in a fork promise: the number r, and the fork g that they leave
abbrev pub ForkRemoval : List ℕ → List ℕ → ℕ → ℕ → List ℕ → Type 0
ForkRemoval f name flags r g = (r ≡ held_request f name flags) × (g ≡ fork_changed f (held_request f name flags) (others name flags (stored f)))

abbrev pub ForkSet : List ℕ → List ℕ → ℕ → List ℕ → ℕ → List ℕ → Type 0
ForkSet f name flags value r g =
    (r ≡ room_request f name flags value) × (g ≡ fork_changed f (room_request f name flags value) (set_entries name flags value (stored f)))
