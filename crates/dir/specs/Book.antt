-- Demand 3's book: names with numbers and file types, fed each call, and what it answers. It sees no answers of the directory's.
-- Assumes nothing.
use Rattle.std.specs.Prelude.{ℕ, Bool, true, false, not, cond, ◌&&◌, ◌≡◌, List, [], ◌∷◌}
use Rattle.refusal.specs.Refusal.{ASKED, FIXED, ABSENT, EXISTS, NOROOM}
use Rattle.be.specs.Codes.{◌unless◌then◌}
use Rattle.be.specs.Lists.{some_of, tally, without_first, same}
use Rattle.edition.specs.declared.Edition.{Edition}
use Rattle.name.specs.Name.{legal_name, same_name, fixed_name, dot}
use Rattle.dir.specs.declared.Target.{Target}
use Rattle.dir.specs.Target.{no_target, same_target, legal_in, kept_of}
use Rattle.dir.specs.Calls.{Call, look_up, insert, remove, Reply, found, done, refuse}

-- a name with its number and file type
pub record Held : Type 0 where
  pub name : List ℕ
  pub target : Target

abbrev pub held : List ℕ → Target → Held
held n t = record { name = n; target = t }

abbrev pub Book : Type 0
Book = List Held

abbrev pub named : Edition → List ℕ → Held → Bool
named e n h = same_name e n h.name

abbrev pub holds : Edition → List ℕ → Book → Bool
holds e n k = some_of (named e n) k

-- the number and file type of the first that has the name
unfoldable pub target_held : Edition → List ℕ → Book → Target
target_held e n [] = no_target
target_held e n (h ∷ hs) = let r = target_held e n hs in cond (named e n h) h.target r

-- the directory's own number: the one held for "."; 0, which is no legal number, where "." is not held, as in a short form
abbrev pub own_held : Edition → Book → ℕ
own_held e k = (target_held e dot k).inode

-- the book's answer; room is whether the room rule finds room in the directory that the call gets. The first that applies counts.
-- Lookup: name not legal, 11; held, its number and type; else 13.
-- Insert: name, number or type not legal, or the directory's own number, 11; "." or "..", 12; held, 14; no room, 15; else done.
-- Removal: name not legal, 11; "." or "..", 12; not held, 13; else done.
unfoldable pub book_reply : Edition → Book → Bool → Call → Reply
book_reply e k room (look_up n) =
    refuse ASKED unless legal_name e n then
    refuse ABSENT unless holds e n k then found (target_held e n k)
book_reply e k room (insert n t) =
    refuse ASKED unless legal_name e n && legal_in e (own_held e k) t then
    refuse FIXED unless not (fixed_name n) then
    refuse EXISTS unless not (holds e n k) then
    refuse NOROOM unless room then done
book_reply e k room (remove n) =
    refuse ASKED unless legal_name e n then
    refuse FIXED unless not (fixed_name n) then
    refuse ABSENT unless holds e n k then done

abbrev pub is_done : Reply → Bool
is_done (found t) = false
is_done done = true
is_done (refuse k) = false

-- an insert that is done is held from now on; a removal that is done is gone
abbrev pub entered : Edition → Book → Call → Book
entered e k (look_up n) = k
entered e k (insert n t) = held n (kept_of e t) ∷ k
entered e k (remove n) = without_first (named e n) k

-- a refusal changes nothing
unfoldable pub book_after : Edition → Book → Bool → Call → Book
book_after e k room c = cond (is_done (book_reply e k room c)) (entered e k c) k

-- two books hold the same names with the same numbers and types, order left out
abbrev pub same_held : Held → Held → Bool
same_held g h = same g.name h.name && same_target g.target h.target

unfoldable pub SameBook : Book → Book → Type 0
SameBook k l = (h : Held) → tally (same_held h) k ≡ tally (same_held h) l
