-- One turn of the iterator over entries, and what a pass over all of them knows.
-- Assumes nothing.
use Prim.Native.Nat.{ℕ, zero, suc, ◌+◌, ◌-◌, ◌<◌}
use native.Mathlib.Omega.{arith}
use mathlib.Core.Bool.{Bool, true, false, ◌&&◌, ◌||◌}
use mathlib.Core.Path.{◌≡◌, refl, sym, ◌∙◌, ap, ap₂}
use mathlib.Core.List.{List, [], ◌∷◌, map}
use lib.ListN.{length, take, drop, get_or}
use Rattle.std.specs.Prelude.{Some, None}
use Rattle.std.specs.List.{list_all, list_any}
use Rattle.std.proofs.lemmas.Iterator.{YieldsList}
use Rattle.std.proofs.lemmas.Iterator.Consumers.{YieldsList-from_shown}
use Rattle.be.specs.Bytes.{byte, field}
use Rattle.be.specs.Lists.{every, some_of}
use Rattle.name.specs.Name.{same_name}
use Rattle.dir_sf.specs.Fork.{count_of, stored_wides, used_width, entries, holds, once_ok}
use Rattle.records.specs.Records.{places}
use Rattle.records.proofs.Starts.{places_on, places_done, start_on, length_records}
use Rattle.edition.specs.declared.Edition.{Edition}
use Rattle.dir.specs.declared.Target.{Target}
use Rattle.dir.specs.Target.{target}
use Rattle.dir_sf.specs.Entry.{SfEntry, entry, width_of, size_at, entry_at, entries_in}
use Rattle.dir_sf.specs.Inner.{enough}
use Rattle.dir_sf.specs.declared.Entries.{Entries}
use Rattle.dir_sf.specs.Left.{placed_in, placed, bare, told, left, Gives, first_hit}
use Rattle.dir_sf.proofs.Run.{enough_fewer, enough_lies, lies_enough, long_at_is, name_at_is, tag_at_is, target_at_is}

pub some_left : (k : ℕ) → (k ≡ 0 → ⊥) → 0 < k
some_left zero z = absurd (z refl)
some_left (suc k) z = omega arith

module _ (e : Edition) (w : ℕ) (u : List ℕ) where
  pub placed_over : (k at : ℕ) → k ≡ 0 → placed_in e w u k at ≡ []
  unfolding placed_in
  placed_over k at h = rw (places_done (size_at e w u) k at (omega arith)) refl

  pub placed_on : (k at : ℕ) → 0 < k → placed_in e w u k at ≡ (at, entry_at e w u at) ∷ placed_in e w u (k - 1) (at + size_at e w u at)
  unfolding placed_in
  placed_on k at h = rw (places_on (size_at e w u) k at h) refl

  -- without their places they are the entries
  pub bare_is : (k at : ℕ) → bare (placed_in e w u k at) ≡ entries_in e w u k at
  unfolding placed_in entries_in
  bare_is k at = go (places (size_at e w u) k at)
    where
      go : (ps : List ℕ) → bare (map (λ p. (p, entry_at e w u p)) ps) ≡ map (entry_at e w u) ps
      go [] = refl
      go (p ∷ ps) = ap (λ (xs : List SfEntry). entry_at e w u p ∷ xs) (go ps)

  -- what a turn leaves still lies in u
  module _ (k at : ℕ) (some : 0 < k) (f : enough e w u k at ≡ true) where
    pub turn_one : enough e w u 1 at ≡ true
    turn_one = enough_fewer e w u 1 k at (omega arith) f

    pub turn_rest : (n v : ℕ) → n ≡ get_or u at 0 → v ≡ e.ftype + w → enough e w u (k - 1) (at + 3 + n + v) ≡ true
    turn_rest n v a b =
        let z : at + size_at e w u at ≡ at + 3 + n + v = omega (arith, long_at_is e w u at) in
        rw (← z) (lies_enough e w u (k - 1) (at + size_at e w u at) (omega (arith, start_on (size_at e w u) k at some, enough_lies e w u k at f)))

  -- what it reads is the entry, and the next one starts behind it
  pub turn_entry : (at n tag : ℕ) (t : Target) → n ≡ get_or u at 0 → tag ≡ field (at + 1) 2 u
      → t ≡ target (field (at + 3 + n + e.ftype) w u) (field (at + 3 + n) e.ftype u)
      → entry_at e w u at ≡ entry tag (take (at + 3 + n - (at + 3)) (drop (at + 3) u)) t
  turn_entry at n tag t a c d =
      let l : at + 3 + n - (at + 3) ≡ get_or u at 0 = omega arith in
      let x : SfEntry = entry_at e w u at in
      ap₂ (λ (o : ℕ) (y : Target). entry o x.name y) (tag_at_is e w u at ∙ sym c) (target_at_is e w u at n a ∙ sym d)
      ∙ ap (λ (s : List ℕ). entry tag s t) (name_at_is e w u at ∙ ap (λ (j : ℕ). take j (drop (at + 3) u)) (sym l))

  pub turn_next : (at n v : ℕ) → n ≡ get_or u at 0 → v ≡ e.ftype + w → at + size_at e w u at ≡ at + 3 + n + v
  turn_next at n v a b = omega (arith, long_at_is e w u at)

  pub turn_tells : (k at n v tag : ℕ) (t : Target) → 0 < k → n ≡ get_or u at 0 → v ≡ e.ftype + w → tag ≡ field (at + 1) 2 u
      → t ≡ target (field (at + 3 + n + e.ftype) w u) (field (at + 3 + n) e.ftype u)
      → placed_in e w u k at ≡ (at, entry tag (take (at + 3 + n - (at + 3)) (drop (at + 3) u)) t) ∷ placed_in e w u (k - 1) (at + 3 + n + v)
  turn_tells k at n v tag t some a b c d =
      placed_on k at some
      ∙ ap₂ (λ (y : SfEntry) (q : ℕ). (at, y) ∷ placed_in e w u (k - 1) q) (turn_entry at n tag t a c d) (turn_next at n v a b)

-- a test of every entry, made on the items
pub every_bare : (q : SfEntry → Bool) (xs : List (ℕ × SfEntry)) → list_all (λ x. q x.1) xs ≡ every q (bare xs)
every_bare q [] = refl
every_bare q (x ∷ xs) = ap (λ (t : Bool). q x.1 && t) (every_bare q xs)

pub some_bare : (q : SfEntry → Bool) (xs : List (ℕ × SfEntry)) → list_any (λ x. q x.1) xs ≡ some_of q (bare xs)
some_bare q [] = refl
some_bare q (x ∷ xs) = ap (λ (t : Bool). q x.1 || t) (some_bare q xs)

pub turn_length : (e : Edition) (w : ℕ) (u : List ℕ) (k at : ℕ) → length (placed_in e w u k at) ≡ k
unfolding placed_in
turn_length e w u k at = length_records (size_at e w u) (λ p. (p, entry_at e w u p)) k at

-- the list that the iterator gives
pub given_list : (s : Entries) → YieldsList Gives told s (left s)
given_list s = YieldsList-from_shown Gives told left (λ a b h. ap length h.0.0) (λ a x b h. h.0) s

-- ---- the search for a name among them

module _ (e : Edition) (n : List ℕ) (i : ℕ) (x : ℕ × SfEntry) (xs : List (ℕ × SfEntry)) (t : Bool) (h : t ≡ same_name e n x.1.name) where
  pub hit_first : t ≡ true → Some (record { index = i; at = x.0; target = x.1.target; tag = x.1.tag }) ≡ first_hit e n i (x ∷ xs)
  unfolding first_hit
  hit_first f = sym (rw (sym h ∙ f) refl)

  pub hit_later : t ≡ false → first_hit e n i (x ∷ xs) ≡ first_hit e n (i + 1) xs
  unfolding first_hit
  hit_later f = let q : suc i ≡ i + 1 = omega arith in rw (sym h ∙ f, q) refl

pub hit_never : (e : Edition) (n : List ℕ) (i : ℕ) (xs : List (ℕ × SfEntry)) → xs ≡ [] → None ≡ first_hit e n i xs
unfolding first_hit
hit_never e n i xs h = sym (ap (first_hit e n i) h)

-- ---- TWICE: the name that a turn gives, searched for among the others

module _ (e f : Edition) (x : SfEntry) (xs : List (ℕ × SfEntry)) (t : Bool) (a : f ≡ e) (k : t ≡ holds f x.name (bare xs)) where
  found_later : t ≡ holds e x.name (bare xs)
  found_later = k ∙ ap (λ (y : Edition). holds y x.name (bare xs)) a

  pub once_not : t ≡ true → false ≡ once_ok e (x ∷ bare xs)
  unfolding once_ok
  once_not q = sym (rw (sym found_later ∙ q) refl)

  pub once_still : t ≡ false → once_ok e (x ∷ bare xs) ≡ once_ok e (bare xs)
  unfolding once_ok
  once_still q = rw (sym found_later ∙ q) refl

pub once_over : (e : Edition) (xs : List (ℕ × SfEntry)) → xs ≡ [] → once_ok e (bare xs) ≡ true
unfolding once_ok
once_over e xs h = ap (λ (ys : List (ℕ × SfEntry)). once_ok e (bare ys)) h

-- ---- those of used bytes

pub placed_is : (e : Edition) (u : List ℕ) (k wides w : ℕ) → k ≡ byte 0 u → wides ≡ byte 1 u → w ≡ width_of wides → placed_in e (width_of wides) u k (2 + w) ≡ placed e u
unfolding placed used_width stored_wides count_of
placed_is e u k wides w a b c = rw (c, a, b) refl

pub placed_bare : (e : Edition) (u : List ℕ) → bare (placed e u) ≡ entries e u
unfolding placed entries
placed_bare e u = bare_is e (used_width u) u (count_of u) (2 + used_width u)

pub from_is : (u : List ℕ) (k wides w : ℕ) → k ≡ byte 0 u → wides ≡ byte 1 u → w ≡ width_of wides
    → (u ≡ u) × (width_of wides ≡ used_width u) × (k ≡ count_of u) × (2 + w ≡ 2 + used_width u)
unfolding used_width stored_wides count_of
from_is u k wides w a b c = (refl, ap width_of b, a, ap (λ (x : ℕ). 2 + x) (c ∙ ap width_of b))
