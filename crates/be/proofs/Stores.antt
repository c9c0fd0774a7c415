-- A write is a run of stores.
-- Assumes nothing.
use Prim.Native.Nat.{ℕ, zero, suc, ◌%◌}
use native.Mathlib.Nat.{div-one}
use mathlib.Core.Path.{◌≡◌, refl, ap, ◌∙◌}
use mathlib.Core.List.{List, [], ◌∷◌}
use lib.ListN.{set}
use lib.Seq.{sets}
use Rattle.be.specs.Bytes.{to_be, put}
use Rattle.be.proofs.Writes.{put_nothing}

pub put_sets : (b : List ℕ) (o : ℕ) (xs : List ℕ) → put b o xs ≡ sets b o xs
unfolding put
put_sets b o [] = put_nothing b o
put_sets b o (x ∷ xs) = go b o x xs ∙ put_sets (set b o x) (suc o) xs
  where
    go : (b : List ℕ) (o x : ℕ) (xs : List ℕ) → put b o (x ∷ xs) ≡ put (set b o x) (suc o) xs
    go [] o x xs = refl
    go (y ∷ ys) zero x xs = refl
    go (y ∷ ys) (suc o) x xs = ap (λ (l : List ℕ). y ∷ l) (go ys o x xs)

-- one store
pub store : (b : List ℕ) (o v : ℕ) → set b o (v % 256) ≡ put b o (to_be 1 v)
unfolding to_be
store b o v = rw put_sets (simp div-one)
