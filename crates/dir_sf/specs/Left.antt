-- The entries that the code's iterator has left, each behind its place: for code and proofs alone, no call that README lists promises anything by these.
-- Assumes nothing.
use Rattle.std.specs.Prelude.{ℕ, suc, ◌+◌, ◌≡◌, cond, List, [], ◌∷◌, map, Option, Some, None, MatchOption}
use Rattle.std.specs.Iterator.{YieldsFirstBy}
use Rattle.records.specs.Records.{read_records}
use Rattle.edition.specs.declared.Edition.{Edition}
use Rattle.dir_sf.specs.declared.Entries.{Entries}
use Rattle.dir_sf.specs.declared.Hit.{Hit}
use Rattle.dir_sf.specs.declared.StoredEntry.{StoredEntry}
use Rattle.name.specs.Name.{same_name}
use Rattle.dir_sf.specs.Entry.{SfEntry, entry, width_of, size_at, entry_at}
use Rattle.dir_sf.specs.Fork.{count_of, used_width}

-- k entries of u from a place on
unfoldable pub placed_in : Edition → ℕ → List ℕ → ℕ → ℕ → List (ℕ × SfEntry)
placed_in e w u k at = read_records (size_at e w u) (λ p. (p, entry_at e w u p)) k at

-- the same without their places
abbrev pub bare : List (ℕ × SfEntry) → List SfEntry
bare xs = map (λ x. x.1) xs

-- what an item tells
abbrev pub told : StoredEntry → ℕ × SfEntry
told x = (x.at, entry x.tag x.name.now x.target)

-- what is left
abbrev pub left : Entries → List (ℕ × SfEntry)
left s = placed_in s.edition (width_of s.wides) s.bytes.now s.left s.at

-- a turn goes on in the same bytes, behind the entry that it gives
abbrev pub GoesOn : Entries → Option StoredEntry → Entries → Type 0
GoesOn s r t =
    MatchOption r ((s.left ≡ 0) × (t.at ≡ s.at))
    (λ x. (s.left ≡ suc t.left) × (x.at ≡ s.at) × (t.at ≡ s.at + size_at s.edition (width_of s.wides) s.bytes.now s.at)
    × (entry_at s.edition (width_of s.wides) s.bytes.now s.at ≡ entry x.tag x.name.now x.target))
    × (t.bytes.now ≡ s.bytes.now) × (t.wides ≡ s.wides)

-- it gives the first that was left, and the others stay, of the same edition
abbrev pub Gives : Entries → Option StoredEntry → Entries → Type 0
Gives s r t = YieldsFirstBy told left s r t × (t.edition ≡ s.edition) × GoesOn s r t

-- what a search for a name finds among such entries, the first of which has i before it
unfoldable pub first_hit : Edition → List ℕ → ℕ → List (ℕ × SfEntry) → Option Hit
first_hit e n i [] = None
first_hit e n i (x ∷ xs) =
    let r = first_hit e n (suc i) xs in
    cond (same_name e n x.1.name) (Some (record { index = i; at = x.0; target = x.1.target; tag = x.1.tag })) r

-- those of used bytes
unfoldable pub placed : Edition → List ℕ → List (ℕ × SfEntry)
placed e u = placed_in e (used_width u) u (count_of u) (2 + used_width u)

-- it starts with the first of used bytes
abbrev pub From : List ℕ → Entries → Type 0
From u s = (s.bytes.now ≡ u) × (width_of s.wides ≡ used_width u) × (s.left ≡ count_of u) × (s.at ≡ 2 + used_width u)
