-- TWICE over the slots: names compared within runs of one hash, and names in order.
-- Assumes nothing.
use Rattle.std.specs.Prelude.{ℕ, ◌+◌, ◌-◌, ◌*◌, ◌/◌, ◌%◌, ◌^◌, ◌≤◌, ◌<◌, Bool, true, false, not, ◌&&◌, ◌||◌, ◌≡◌, List, [], ◌∷◌, eqb, ltb, length, drop, get_or}
use Rattle.std.specs.Int.Bits.{bit_and, bit_or}
use Rattle.be.specs.Bytes.{byte, field}
use Rattle.edition.specs.declared.Edition.{Edition}
use Rattle.edition.specs.Edition.{largest_block}
use Rattle.name.specs.Name.{same_name}
use Rattle.name_words.specs.Words.{key_of}
use Rattle.dir_block_rules.specs.Block.{Slot, slots_in}
use Rattle.dir_block_rules.specs.Lookup.{name_at}

-- the slots from index i on, of the n that stand at t
unfoldable pub slots_from : List ℕ → ℕ → ℕ → ℕ → List Slot
slots_from b t n i = slots_in (n - i) (drop (t + 8 * i) b)

-- slot i's hash and address, of those at t
abbrev pub hash_at : List ℕ → ℕ → ℕ → ℕ
hash_at b t i = field (t + 8 * i) 4 b

abbrev pub addr_at : List ℕ → ℕ → ℕ → ℕ
addr_at b t i = field (t + 8 * i + 4) 4 b

-- among the slots of hash h that the list begins with, a live one's entry has the name of the entry at address c
unfoldable pub clash_from : Edition → List ℕ → ℕ → ℕ → List Slot → Bool
clash_from e b h c [] = false
clash_from e b h c (s ∷ ss) =
    let r = clash_from e b h c ss in
    eqb s.hash h && ((not (eqb s.addr 0) && same_name e (name_at b (8 * c)) (name_at b (8 * s.addr))) || r)

-- the first of the slots has this hash
unfoldable pub runs_on : ℕ → List Slot → Bool
runs_on h [] = false
runs_on h (s ∷ ss) = eqb s.hash h

-- slot i has the hash of the one before it
unfoldable pub follows : List ℕ → ℕ → ℕ → Bool
follows b t i = ltb 0 i && eqb (hash_at b t (i - 1)) (hash_at b t i)

-- two bits of a word, for a key
unfoldable pub key_bits : ℕ → ℕ
key_bits k = bit_or (2 ^ (k % 64)) (2 ^ (k / 64 % 64))

-- both are set in the key's cell
abbrev pub HasKey : List ℕ → ℕ → Type 0
HasKey S k = bit_and (get_or S (bit_and (k / 4096) (length S - 1)) 0) (key_bits k) ≡ key_bits k

-- the table has the key of each live slot's name, from slot i on, that follows one of its hash
pub record Marked (b : List ℕ) (t n i : ℕ) (S : List ℕ) : Type 0 where
  pub some : 0 < length S
  pub each : (j : ℕ) → i ≤ j → j < n → follows b t j ≡ true → (addr_at b t j ≡ 0 → ⊥) → HasKey S (key_of (name_at b (8 * addr_at b t j)))

-- slot i is live, and a later one of its hash has its name
abbrev pub twin_at : Edition → List ℕ → ℕ → ℕ → ℕ → Bool
twin_at e b t n i = not (eqb (addr_at b t i) 0) && clash_from e b (hash_at b t i) (addr_at b t i) (slots_from b t n (i + 1))

-- the table marks slot i too; where r is true, slot i is live, and where it is false, it has no twin
pub record Noted (b : List ℕ) (t n i : ℕ) (S : List ℕ) (r : Bool) : Type 0 where
  pub marks : Marked b t n i S
  pub live : r ≡ true → addr_at b t i ≡ 0 → ⊥
  pub alone : r ≡ false → (e : Edition) → twin_at e b t n i ≡ false

-- TWICE in one pass over the slots
unfoldable pub once_in : Edition → List ℕ → List Slot → Bool
once_in e b [] = true
once_in e b (s ∷ ss) = not (not (eqb s.addr 0) && clash_from e b s.hash s.addr ss) && once_in e b ss

-- the names of the entries that the n slots at t address are within the block, and eight more bytes follow them
abbrev pub Reach : List ℕ → ℕ → ℕ → Type 0
Reach b t n = (i : ℕ) → i < n → (addr_at b t i ≡ 0 → ⊥) → 8 * addr_at b t i + 9 + byte (8 * addr_at b t i + 8) b + 8 ≤ length b

-- no block has more slots
abbrev pub most_slots : ℕ
most_slots = largest_block / 8

-- the bytes of one name come before those of another; under a case option it will have to take the folded names, as `key_of` will
unfoldable pub lex : List ℕ → List ℕ → Bool
lex xs [] = false
lex [] (y ∷ ys) = true
lex (x ∷ xs) (y ∷ ys) = ltb x y || (eqb x y && lex xs ys)

-- the first k bytes of both say nothing of their order
pub record Undecided (x y : List ℕ) (k : ℕ) : Type 0 where
  pub left : k ≤ length x
  pub right : k ≤ length y
  pub so_far : lex x y ≡ lex (drop k x) (drop k y)

-- slot i is one of the n, and live
unfoldable pub live_at : List ℕ → ℕ → ℕ → ℕ → Bool
live_at b t n i = ltb i n && not (eqb (addr_at b t i) 0)

-- slots i and j are live, and i's name comes before j's
unfoldable pub sorts_before : List ℕ → ℕ → ℕ → ℕ → ℕ → Bool
sorts_before b t n i j =
    live_at b t n i && (live_at b t n j && lex (name_at b (8 * addr_at b t i)) (name_at b (8 * addr_at b t j)))

-- the slots in the first m cells of O ascend
unfoldable pub Ascends : List ℕ → ℕ → ℕ → List ℕ → ℕ → Type 0
Ascends b t n O m = (k : ℕ) → k + 1 < m → sorts_before b t n (get_or O k 0) (get_or O (k + 1) 0) ≡ true

-- slot i's rank, in R, is where it stands among the first m cells of O
pub record Placed (O R : List ℕ) (m i : ℕ) : Type 0 where
  pub below : get_or R i 0 < m
  pub there : get_or O (get_or R i 0) 0 ≡ i

-- and that of every live slot
unfoldable pub Ranked : List ℕ → ℕ → ℕ → List ℕ → List ℕ → ℕ → Type 0
Ranked b t n O R m = (i : ℕ) → live_at b t n i ≡ true → Placed O R m i
