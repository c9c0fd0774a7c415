-- The number of ".": it stays with an entry more or less elsewhere.
-- Assumes nothing.
use Prim.Native.Nat.{ℕ}
use mathlib.Core.Bool.{true, false, false≢true}
use mathlib.Core.Path.{◌≡◌, refl}
use mathlib.Core.List.{List, [], ◌∷◌, ◌++◌}
use lib.Dec.{eqb}
use Rattle.be.specs.Lists.{some_of}
use Rattle.be.proofs.Bools.{by_cases, or_right}
use Rattle.be.proofs.Splits.{Split, split_cons}
use Rattle.edition.specs.declared.Edition.{Edition}
use Rattle.name.specs.Name.{legal_number, fixed_name}
use Rattle.dir_block_rules.specs.Record.{Rec, name, number}
use Rattle.dir_block_rules.specs.Verdict.{own_in, number_fits, number_ok}

pub own_mid : (e : Edition) (xs : List Rec) (x : Rec) (ys : List Rec) → eqb x.off e.header ≡ false → own_in e (xs ++ x ∷ ys) ≡ own_in e (xs ++ ys)
unfolding own_in
own_mid e [] x ys h = rw h refl
own_mid e (z ∷ xs) x ys h = rw (own_mid e xs x ys h) refl

-- a legal number other than the directory's own may stand anywhere
pub number_stands : (e : Edition) (own : ℕ) (r : Rec) → legal_number (number r) ≡ true → eqb (number r) own ≡ false → number_ok e own r ≡ true
unfolding number_fits
number_stands e own r h k = rw (h, k) (or_right (fixed_name (name r)) true refl)

-- the entry that has it
pub own_there : (e : Edition) (es : List Rec) → some_of (λ r. eqb r.off e.header) es ≡ true
    → (s : Split es) × (eqb s.here.off e.header ≡ true) × (own_in e es ≡ number s.here)
unfolding own_in
own_there e [] h = absurd (false≢true h)
own_there e (r ∷ es) h =
    by_cases (eqb r.off e.header)
    (λ q. (record { before = []; here = r; behind = es; is = refl }, q, rw q refl))
    (λ q. let s : (s : Split es) × (eqb s.here.off e.header ≡ true) × (own_in e es ≡ number s.here) = own_there e es (rw q at h) in
    (split_cons r es s.0, s.1, rw q s.2))
