-- What holds of one call holds along every list of calls: the induction.
-- Assumes nothing.
use Prim.Native.Nat.{ℕ}
use mathlib.Core.Bool.{true}
use mathlib.Core.Path.{◌≡◌}
use mathlib.Core.List.{List, [], ◌∷◌}
use Rattle.be.specs.Lists.{every}
use Rattle.be.proofs.Bools.{and_left, and_right}
use Rattle.dir.specs.Calls.{Call}
use Rattle.dir.specs.Book.{Book}
use Rattle.dir.specs.Along.{call_bytes, Along}

-- I is what the claim starts from, and what each call leaves again
module _ (right : Book → List ℕ → Call → Type 0) (book : Book → List ℕ → Call → Book) (after : List ℕ → Call → List ℕ)
    (I : Book → List ℕ → Type 0)
    (step : (k : Book) (b : List ℕ) (c : Call) → I k b → call_bytes c ≡ true → right k b c × I (book k b c) (after b c)) where
  pub along : (k : Book) (b : List ℕ) → I k b → (cs : List Call) → every call_bytes cs ≡ true → Along right book after k b cs
  along k b i [] q = tt
  along k b i (c ∷ cs) q =
      let s = step k b c i (and_left _ _ q) in
      (s.0, along (book k b c) (after b c) s.1 cs (and_right (call_bytes c) _ q))
