-- Lookup of a name in a block, with the names compared.
-- Assumes nothing.
use Rattle.std.specs.Prelude.{ℕ, suc, ◌+◌, ◌*◌, Bool, true, false, cond, ◌&&◌, ◌≡◌, List, [], ◌∷◌, eqb, Result}
use Rattle.refusal.specs.Refusal.{ASKED, ABSENT, answered}
use Rattle.be.specs.Lists.{tally}
use Rattle.be.specs.Bytes.{byte, field, part}
use Rattle.be.specs.Codes.{◌unless◌then◌, ◌and_then◌}
use Rattle.edition.specs.declared.Edition.{Edition}
use Rattle.name.specs.Name.{hash_of, same_name, legal_name}
use Rattle.dir.specs.declared.Looked.{Looked}
use Rattle.dir.specs.declared.Looked.TheVariants.{Found, Absent}
use Rattle.dir.specs.declared.Target.{Target}
use Rattle.dir.specs.Target.{target, no_target}
use Rattle.dir.specs.Answers.{looked_code, looked_target, looked_tag, looked_compared}
use Rattle.dir_block_rules.specs.Block.{Slot, slots, is_live}
use Rattle.dir_block_rules.specs.Verdict.{verdict}

-- the name and the inode number of the entry at offset o
abbrev pub name_at : List ℕ → ℕ → List ℕ
name_at b o = part (o + 9) (byte (o + 8) b) b

abbrev pub number_at : List ℕ → ℕ → ℕ
number_at b o = field o 8 b

-- and its file type, after the name; 0 where the edition has none
abbrev pub kind_at : Edition → List ℕ → ℕ → ℕ
kind_at e b o = field (o + 9 + byte (o + 8) b) e.ftype b

abbrev pub target_at : Edition → List ℕ → ℕ → Target
target_at e b o = target (number_at b o) (kind_at e b o)

-- what a search of the slots finds: the slot's index, the entry's offset, and the names compared
pub record Sought : Type 0 where
  pub hit : Bool
  pub index : ℕ
  pub at : ℕ
  pub compared : ℕ

-- a name is compared at each live slot with the wanted hash h
abbrev pub candidate : ℕ → Slot → Bool
candidate h s = is_live s && eqb s.hash h

abbrev pub step_if : Bool → ℕ → ℕ
step_if true c = suc c
step_if false c = c

-- the search ends at a candidate whose entry has the name n, not at the first equal hash
abbrev pub match : Edition → List ℕ → List ℕ → ℕ → Slot → Bool
match e b n h s = candidate h s && same_name e n (name_at b (8 * s.addr))

-- the slots ss stand at index k and on; c names were compared before
unfoldable pub seek : Edition → List ℕ → List ℕ → ℕ → ℕ → ℕ → List Slot → Sought
seek e b n h k c [] = record { hit = false; index = k; at = 0; compared = c }
seek e b n h k c (s ∷ ss) =
    let more = seek e b n h (suc k) (step_if (candidate h s) c) ss in
    cond (match e b n h s)
    (record { hit = true; index = k; at = 8 * s.addr; compared = suc c })
    more

unfoldable pub sought : Edition → List ℕ → List ℕ → Sought
sought e b n = seek e b n (hash_of e n) 0 0 (slots b)

-- the slot of a live entry that has the name
abbrev pub bears : Edition → List ℕ → List ℕ → Slot → Bool
bears e b n s = is_live s && same_name e n (name_at b (8 * s.addr))

-- the slots up to and including the first that passes the test, or all of them
unfoldable pub up_to : (Slot → Bool) → List Slot → List Slot
up_to p [] = []
up_to p (s ∷ ss) = let r = up_to p ss in cond (p s) (s ∷ []) (s ∷ r)

-- names compared, apart from the search: the live slots with the name's hash, in slot order, up to and including the match,
-- or all of them if absent
unfoldable pub names_compared : Edition → List ℕ → List ℕ → ℕ
names_compared e b n = tally (candidate (hash_of e n)) (up_to (bears e b n) (slots b))

-- the refusal before the search: of the block, or 11 ASKED
unfoldable pub lookup_refusal : Edition → List ℕ → List ℕ → ℕ
lookup_refusal e b n = verdict e b and_then ASKED unless legal_name e n then 0

-- 13 ABSENT: no such live entry
unfoldable pub lookup_code : Edition → List ℕ → List ℕ → ℕ
lookup_code e b n = lookup_refusal e b n and_then ABSENT unless (sought e b n).hit then 0

-- what the name stands for, when it is found
unfoldable pub lookup_target : Edition → List ℕ → List ℕ → Target
lookup_target e b n = cond (eqb (lookup_code e b n) 0) (target_at e b (sought e b n).at) no_target

-- its entry's tag, which is the entry's own offset
unfoldable pub lookup_tag : Edition → List ℕ → List ℕ → ℕ
lookup_tag e b n = cond (eqb (lookup_code e b n) 0) (sought e b n).at 0

-- the names compared, when the search is made
unfoldable pub lookup_compared : Edition → List ℕ → List ℕ → ℕ
lookup_compared e b n = cond (eqb (lookup_refusal e b n) 0) (names_compared e b n) 0

-- what a search answers
abbrev pub looked_of : Edition → List ℕ → List ℕ → Looked
looked_of e b n =
    cond (sought e b n).hit
    (Found (target_at e b (sought e b n).at) (sought e b n).at (names_compared e b n))
    (Absent (names_compared e b n))

unfoldable pub lookup : Edition → List ℕ → List ℕ → Result Looked ℕ
lookup e b n = answered (lookup_refusal e b n) (looked_of e b n)

-- what a lookup promises of its answer: the answer itself, and its number and values
abbrev pub LookupPromise : Edition → List ℕ → List ℕ → Result Looked ℕ → Type 0
LookupPromise e b n r =
    (r ≡ lookup e b n) × (looked_code r ≡ lookup_code e b n) × (looked_target r ≡ lookup_target e b n) × (looked_tag r ≡ lookup_tag e b n)
    × (looked_compared r ≡ lookup_compared e b n)
