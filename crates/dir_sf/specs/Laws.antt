-- What is proved of lookup and walk: each law is a proposition about the definitions, over the edition.
-- Assumes nothing.
use Rattle.std.specs.Prelude.{ℕ, ◌+◌, ◌<◌, true, false, cond, ◌≡◌, List, ◌∷◌, ◌++◌, length, Ok}
use Rattle.be.specs.Bytes.{part}
use Rattle.edition.specs.declared.Edition.{Edition}
use Rattle.name.specs.Name.{legal_name, fixed_name, dotdot}
use Rattle.dir.specs.declared.Looked.TheVariants.{Found, Absent}
use Rattle.dir_sf.specs.Entry.{SfEntry}
use Rattle.dir_sf.specs.Fork.{parent, entries, holds, count_of, used_width, place_of}
use Rattle.dir_sf.specs.Change.{target_in, tag_in}
use Rattle.dir_sf.specs.Inode.{used, verdict, lookup}
use Rattle.dir.specs.Target.{target, kept_of}
use Rattle.dir.specs.declared.Seen.TheVariants.{Live, Gap}
use Rattle.dir_sf.specs.Walk.{step_seen, walk, meets}

-- a lookup gives what is stored: each entry's number, type and tag, by its name
unfoldable pub LookupStored : Edition → Type 0
LookupStored e = (told : ℕ) (b : List ℕ) (ys zs : List SfEntry) (x : SfEntry) → verdict e told b ≡ 0 → entries e (used e b) ≡ ys ++ (x ∷ zs)
    → lookup e told b x.name ≡ Ok (Found x.target x.tag 0)

-- a name that may be stored is absent exactly when no entry bears it
unfoldable pub LookupAbsent : Edition → Type 0
LookupAbsent e = (told : ℕ) (b n : List ℕ) → verdict e told b ≡ 0 → legal_name e n ≡ true → fixed_name n ≡ false
    → lookup e told b n ≡ cond (holds e n (entries e (used e b))) (Ok (Found (target_in e n (entries e (used e b))) (tag_in e n (entries e (used e b))) 0)) (Ok (Absent 0))

-- ".." gives the parent and tag 0
unfoldable pub LookupParent : Edition → Type 0
LookupParent e = (told : ℕ) (b : List ℕ) → verdict e told b ≡ 0 → lookup e told b dotdot ≡ Ok (Found (kept_of e (target (parent (used e b)) 2)) 0 0)

-- the walk meets each entry once, in stored order, and then the end, however many steps more it is given
unfoldable pub WalkWhole : Edition → Type 0
WalkWhole e = (told : ℕ) (b : List ℕ) (steps : ℕ) → verdict e told b ≡ 0 → count_of (used e b) < steps
    → walk e told b steps (2 + used_width (used e b)) ≡ meets e (used_width (used e b)) (used e b) (count_of (used e b)) (2 + used_width (used e b))

-- so it ends after as many steps as there are entries, plus one
unfoldable pub WalkEnds : Edition → Type 0
WalkEnds e = (told : ℕ) (b : List ℕ) (steps : ℕ) → verdict e told b ≡ 0 → count_of (used e b) < steps
    → length (walk e told b steps (2 + used_width (used e b))) ≡ length (entries e (used e b)) + 1

-- what a step at a place tells of an entry: what it stands for, its stored tag, and the part of the inode that is its name
pub record Tells (e : Edition) (told : ℕ) (b : List ℕ) (place : ℕ) (x : SfEntry) : Type 0 where
  pub seen_is : step_seen e told b place ≡ Live (record { target = x.target; tag = x.tag; start = e.literal + (place + 3); len = length x.name })
  pub name_is : part (e.literal + (place + 3)) (length x.name) b ≡ x.name

-- the step at an entry's place tells of that entry: the part that it hands out is the stored name
unfoldable pub WalkNames : Edition → Type 0
WalkNames e = (told : ℕ) (b : List ℕ) (ys zs : List SfEntry) (x : SfEntry) → verdict e told b ≡ 0 → entries e (used e b) ≡ ys ++ (x ∷ zs)
    → Tells e told b (place_of e (length ys) (used e b)) x

-- stored order is by rising tag
unfoldable pub TagsRise : Edition → Type 0
TagsRise e = (told : ℕ) (b : List ℕ) (ys zs : List SfEntry) (x y : SfEntry) → verdict e told b ≡ 0 → entries e (used e b) ≡ ys ++ (x ∷ y ∷ zs) → x.tag < y.tag

-- a short form has no gaps: no step says Gap
unfoldable pub WalkNoGap : Edition → Type 0
WalkNoGap e = (told : ℕ) (b : List ℕ) (place : ℕ) → step_seen e told b place ≡ Gap → ⊥
