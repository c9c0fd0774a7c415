-- No two gaps touch: entries put in, and gaps that change their length.
-- Assumes nothing.
use mathlib.Core.Bool.{Bool, true, false, not, ◌&&◌, false≢true}
use mathlib.Core.Path.{◌≡◌, refl}
use mathlib.Core.List.{List, [], ◌∷◌, ◌++◌}
use Rattle.dir_block_rules.specs.Record.{Rec, is_gap, apart}
use Rattle.be.proofs.Bools.{and_left, and_right, and_both}

-- what may follow a record that is a gap or not
abbrev pub Follows : Bool → List Rec → Type 0
Follows g [] = Unit {0}
Follows g (r ∷ rs) = (not (g && is_gap r) ≡ true) × Follows (is_gap r) rs

pub apart→ : (r : Rec) (rs : List Rec) → apart (r ∷ rs) ≡ true → Follows (is_gap r) rs
unfolding apart
apart→ r [] h = tt
apart→ r (s ∷ rs) h =
    (and_left (not (is_gap r && is_gap s)) (apart (s ∷ rs)) h, apart→ s rs (and_right (not (is_gap r && is_gap s)) (apart (s ∷ rs)) h))

pub →apart : (r : Rec) (rs : List Rec) → Follows (is_gap r) rs → apart (r ∷ rs) ≡ true
unfolding apart
→apart r [] h = refl
→apart r (s ∷ rs) h = and_both (not (is_gap r && is_gap s)) (apart (s ∷ rs)) h.0 (→apart s rs h.1)

pub follows : (rs : List Rec) → apart rs ≡ true → Follows false rs
follows [] h = tt
follows (r ∷ rs) h = (refl, apart→ r rs h)

pub from_follows : (g : Bool) (rs : List Rec) → Follows g rs → apart rs ≡ true
unfolding apart
from_follows g [] h = refl
from_follows g (r ∷ rs) h = →apart r rs h.1

-- after a record that is no gap anything may follow
pub weaken : (g : Bool) (rs : List Rec) → Follows g rs → Follows false rs
weaken g [] h = tt
weaken g (r ∷ rs) h = (refl, h.1)

-- whether the last record of xs is a gap, g if there is none
abbrev pub last_gap? : Bool → List Rec → Bool
last_gap? g [] = g
last_gap? g (r ∷ rs) = last_gap? (is_gap r) rs

pub follows_front : (g : Bool) (xs ys : List Rec) → Follows g (xs ++ ys) → Follows g xs
follows_front g [] ys h = tt
follows_front g (r ∷ xs) ys h = (h.0, follows_front (is_gap r) xs ys h.1)

pub follows_back : (g : Bool) (xs ys : List Rec) → Follows g (xs ++ ys) → Follows (last_gap? g xs) ys
follows_back g [] ys h = h
follows_back g (r ∷ xs) ys h = follows_back (is_gap r) xs ys h.1

pub follows_append : (g : Bool) (xs ys : List Rec) → Follows g xs → Follows (last_gap? g xs) ys → Follows g (xs ++ ys)
follows_append g [] ys h k = k
follows_append g (r ∷ xs) ys h k = (h.0, follows_append (is_gap r) xs ys h.1 k)

-- an entry may stand behind anything
pub follows_entry : (g : Bool) (r : Rec) (rs : List Rec) → is_gap r ≡ false → Follows false rs → Follows g (r ∷ rs)
follows_entry true r rs h k = (rw h refl, rw h k)
follows_entry false r rs h k = (refl, rw h k)

-- what stands before a gap is none
pub last_no : (p q : Bool) → not (p && q) ≡ true → q ≡ true → p ≡ false
last_no true true h k = absurd (false≢true h)
last_no true false h k = absurd (false≢true k)
last_no false q h k = refl
