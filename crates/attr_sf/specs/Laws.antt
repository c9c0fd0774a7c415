-- What the calls promise beyond their contracts, for every edition of sane sizes. These are claims about the definitions; the proofs are in
-- proofs/, and for V4 in proofs/V4Laws.antt.
-- Assumes nothing.
use Rattle.std.specs.Prelude.{ℕ, ◌+◌, ◌-◌, ◌≡◌, List, [], ◌∷◌, ◌++◌, map, true, false, cond, ◌||◌, eqb, length, take, drop, replicate, Ok, Err}
use Rattle.refusal.specs.Refusal.{ABSENT}
use Rattle.be.specs.Bytes.{bytes, byte, part}
use Rattle.be.specs.Lists.{some_of}
use Rattle.records.specs.Records.{places}
use Rattle.edition.specs.declared.Edition.{Edition}
use Rattle.dinode.specs.Core.{attr_start, attr_fork}
use Rattle.attr_sf.specs.Entry.{Entry, entry, legal_flags, legal_key, is_key, others, run}
use Rattle.attr_sf.specs.Fork.{header, stored, count, totsize, size_at, entry_at}
use Rattle.attr_sf.specs.Walk.{walk, live_step, end_step}
use Rattle.attr_sf.specs.Calls.{verdict, asked_code, attr_at, value_at, lookup, place_code, part_of, remove_code, set_code, remove_bytes, set_bytes}

-- ---- set and removal

-- what is left, c, of the inode b
pub record Kept (e : Edition) (b c : List ℕ) : Type 0 where
  -- it passes the tests
  pub accepted : verdict e c ≡ 0
  -- it is as long as before, and nothing outside the attribute fork has changed
  pub long : length c ≡ length b
  pub outside : take (attr_start e b) c ≡ take (attr_start e b) b
  -- the pad byte is left alone, and unused fork bytes are zero
  pub pad : byte 3 (attr_fork e c) ≡ byte 3 (attr_fork e b)
  pub unused : drop (totsize (attr_fork e c)) (attr_fork e c) ≡ replicate (length (attr_fork e b) - totsize (attr_fork e c)) 0

pub record Removed (e : Edition) (b name : List ℕ) (flags : ℕ) (c : List ℕ) : Type 0 where
  pub left : Kept e b c
  -- every other attribute is as before, in order
  pub rest : stored (attr_fork e c) ≡ others name flags (stored (attr_fork e b))
  -- the one asked for is absent
  pub gone : lookup e c name flags ≡ Err ABSENT

pub record Set (e : Edition) (b name : List ℕ) (flags : ℕ) (value c : List ℕ) : Type 0 where
  pub left : Kept e b c
  -- every other attribute is as before, in order, and the new one stands at the end
  pub rest : stored (attr_fork e c) ≡ others name flags (stored (attr_fork e b)) ++ (entry flags name value ∷ [])
  -- the lookup finds it, and gives exactly the value
  pub there : place_code (lookup e c name flags) ≡ 0
  pub given : part_of c (lookup e c name flags) ≡ value

-- what a slice holds is bytes, always
abbrev pub RemovalLaw : Edition → Type 0
RemovalLaw e = (b name : List ℕ) (flags : ℕ) → bytes b ≡ true
    → remove_code e b name flags ≡ 0 → Removed e b name flags (remove_bytes e b name flags)

abbrev pub SetLaw : Edition → Type 0
SetLaw e = (b name : List ℕ) (flags : ℕ) (value : List ℕ)
    → set_code e b name flags value ≡ 0 → Set e b name flags value (set_bytes e b name flags value)

-- a set or a removal of one attribute changes no other lookup's answer
pub record Alike (e : Edition) (b c m : List ℕ) (h : ℕ) : Type 0 where
  pub number : place_code (lookup e c m h) ≡ place_code (lookup e b m h)
  pub value : part_of c (lookup e c m h) ≡ part_of b (lookup e b m h)

abbrev pub UnmovedLaw : Edition → Type 0
UnmovedLaw e = (b name : List ℕ) (flags : ℕ) (value m : List ℕ) (h : ℕ)
    → is_key name flags (entry h m []) ≡ false → asked_code e b m h ≡ 0
    → (set_code e b name flags value ≡ 0 → Alike e b (set_bytes e b name flags value) m h)
    × (bytes b ≡ true → remove_code e b name flags ≡ 0 → Alike e b (remove_bytes e b name flags) m h)

-- a refusal changes no byte
abbrev pub RefusalLaw : Edition → Type 0
RefusalLaw e = (b name : List ℕ) (flags : ℕ) (value : List ℕ)
    → ((set_code e b name flags value ≡ 0 → ⊥) → set_bytes e b name flags value ≡ b)
    × ((remove_code e b name flags ≡ 0 → ⊥) → remove_bytes e b name flags ≡ b)

-- ---- lookup

-- a stored entry x, behind those of front, is found with its own value
pub record Found (e : Edition) (b : List ℕ) (front : List Entry) (x : Entry) : Type 0 where
  pub there : place_code (lookup e b x.name x.flags) ≡ 0
  -- the part that is handed back is the entry's value, where the entry stands
  pub value : part_of b (lookup e b x.name x.flags) ≡ x.value
  pub place : lookup e b x.name x.flags ≡ Ok (value_at (attr_start e b) (attr_fork e b) (header + length (run front)))

abbrev pub FoundLaw : Edition → Type 0
FoundLaw e = (b : List ℕ) (front : List Entry) (x : Entry) (back : List Entry) → verdict e b ≡ 0
    → stored (attr_fork e b) ≡ front ++ (x ∷ back) → Found e b front x

-- a legal name with legal flags is absent exactly when no stored entry has both
abbrev pub AbsentLaw : Edition → Type 0
AbsentLaw e = (b name : List ℕ) (flags : ℕ) → verdict e b ≡ 0 → legal_key name flags ≡ true
    → place_code (lookup e b name flags) ≡ cond (some_of (is_key name flags) (stored (attr_fork e b))) 0 ABSENT

-- ---- the walk

-- from the start it meets every entry once, in stored order, and then the end: entries plus one answers, and no more however long one asks
abbrev pub WalkLaw : Edition → Type 0
WalkLaw e = (b : List ℕ) (k : ℕ) → verdict e b ≡ 0
    → walk e b (count (attr_fork e b) + 1 + k) header
    ≡ map (λ (at : ℕ). Ok (live_step (attr_start e b) (attr_fork e b) at)) (places (size_at (attr_fork e b)) (count (attr_fork e b)) header)
    ++ (Ok (end_step (totsize (attr_fork e b))) ∷ [])

-- what a step says of an entry: the parts of the inode that it names are the entry's own
abbrev pub PartsLaw : Edition → Type 0
PartsLaw e = (b : List ℕ) (at : ℕ)
    → (part (attr_at (attr_start e b) (attr_fork e b) at).name_start (attr_at (attr_start e b) (attr_fork e b) at).name_len b ≡ (entry_at (attr_fork e b) at).name)
    × (part (attr_at (attr_start e b) (attr_fork e b) at).value_start (attr_at (attr_start e b) (attr_fork e b) at).value_len b ≡ (entry_at (attr_fork e b) at).value)

-- ---- flags: 2 trusted, 4 secure, 0 user, and no other
abbrev pub FlagsLaw : Type 0
FlagsLaw = (g : ℕ) → legal_flags g ≡ (eqb g 0 || (eqb g 2 || eqb g 4))
