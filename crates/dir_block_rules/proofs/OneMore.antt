-- Tests over a list with one element more in its middle.
-- Assumes nothing.
use mathlib.Core.Bool.{Bool, true, false, not, ◌&&◌, ◌||◌}
use mathlib.Core.Path.{◌≡◌, refl}
use mathlib.Core.List.{List, [], ◌∷◌, ◌++◌}
use Rattle.name.proofs.Same.{same_name_swap}
use Rattle.be.specs.Lists.{some_of}
use Rattle.edition.specs.declared.Edition.{Edition}
use Rattle.name.specs.Name.{same_name}
use Rattle.dir_block_rules.specs.Record.{Rec, name}
use Rattle.dir_block_rules.specs.Verdict.{once_ok}
use Rattle.be.proofs.Splits.{some_mid}

exchange : (a b c d : Bool) → (not (a || b) && (not c && d)) ≡ (not (a || c) && (not b && d))
exchange true b c d = refl
exchange false true true d = refl
exchange false true false d = refl
exchange false false true d = refl
exchange false false false d = refl

-- no other record has its name
abbrev pub alone : Edition → Rec → List Rec → Bool
alone e r rs = not (some_of (λ s. same_name e (name r) (name s)) rs)

pub once_mid : (e : Edition) (xs : List Rec) (x : Rec) (ys : List Rec) → once_ok e (xs ++ x ∷ ys) ≡ (alone e x (xs ++ ys) && once_ok e (xs ++ ys))
unfolding once_ok
once_mid e [] x ys = refl
once_mid e (z ∷ xs) x ys =
    let s : Rec → Rec → Bool = λ a b. same_name e (name a) (name b) in
    rw (some_mid (s z) xs x ys, once_mid e xs x ys, same_name_swap e (name z) (name x))
    (exchange (same_name e (name x) (name z)) (some_of (s z) (xs ++ ys)) (some_of (s x) (xs ++ ys)) (once_ok e (xs ++ ys)))
