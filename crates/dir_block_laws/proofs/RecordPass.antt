-- What a pass over the records reads of each, and T by the last one.
-- Assumes nothing.
use Prim.Native.Nat.{ℕ, ◌+◌}
use mathlib.Core.Bool.{true, false}
use mathlib.Core.Path.{◌≡◌, ◌∙◌, ap}
use mathlib.Core.List.{List, [], ◌∷◌, ◌++◌, append-nil}
use lib.ListN.{take, drop, get_or}
use lib.Seq.{drop-drop, get_or-drop}
use Rattle.dir_block_rules.proofs.InsertCases.{last_is}
use Rattle.be.specs.Bytes.{be, field}
use Rattle.be.proofs.Bools.{keep_append}
use Rattle.edition.specs.declared.Edition.{Edition}
use Rattle.edition.specs.Edition.{entry_size}
use Rattle.dir_block_rules.specs.Record.{Rec, rec, is_gap, gap_start, says, gaps}
use Rattle.dir_block_rules.specs.Room.{touching}

pub touch_gap : (o : ℕ) (xs : List Rec) (y : Rec) → is_gap y ≡ true → touching o (xs ++ (y ∷ [])) ≡ y
unfolding touching
touch_gap o xs y g = rw (last_is o xs y) (rw g)

pub touch_entry : (o : ℕ) (xs : List Rec) (y : Rec) → is_gap y ≡ false → touching o (xs ++ (y ∷ [])) ≡ rec o []
unfolding touching
touch_entry o xs y g = rw (last_is o xs y) (rw g)

pub gaps_gap : (xs : List Rec) (y : Rec) → is_gap y ≡ true → gaps (xs ++ (y ∷ [])) ≡ gaps xs ++ (y ∷ [])
gaps_gap xs y g = keep_append is_gap xs (y ∷ []) ∙ ap (λ (l : List Rec). gaps xs ++ l) (rw g)

pub gaps_entry : (xs : List Rec) (y : Rec) → is_gap y ≡ false → gaps (xs ++ (y ∷ [])) ≡ gaps xs
gaps_entry xs y g = keep_append is_gap xs (y ∷ []) ∙ ap (λ (l : List Rec). gaps xs ++ l) (rw g) ∙ append-nil (gaps xs)

-- what the code reads at o
pub says_gap : (e : Edition) (b : List ℕ) (o : ℕ) → gap_start (drop o b) ≡ true → says e (drop o b) ≡ field (o + 2) 2 b
unfolding says
says_gap e b o g = rw g (ap (λ (l : List ℕ). be (take 2 l)) (drop-drop 2 o b))

pub says_entry : (e : Edition) (b : List ℕ) (o : ℕ) → gap_start (drop o b) ≡ false → says e (drop o b) ≡ entry_size e (get_or b (o + 8) 0)
unfolding says
says_entry e b o g = rw g (ap (entry_size e) (get_or-drop o b 8 0))
