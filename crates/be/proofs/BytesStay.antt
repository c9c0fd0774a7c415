-- Bytes put together, and bytes written over, are bytes.
-- Assumes nothing.
use Prim.Native.Nat.{ℕ, zero, suc, ◌/◌, ◌%◌, ◌^◌}
use native.Mathlib.Nat.{mod-lt, zero-lt-suc}
use mathlib.Core.Bool.{true}
use mathlib.Core.Path.{◌≡◌, refl, ◌∙◌}
use mathlib.Core.List.{List, [], ◌∷◌, ◌++◌}
use lib.Dec.{ltb}
use lib.ListN.{replicate}
use borrow.Author.Tests.{lt-ltb}
use Rattle.be.specs.Bytes.{bytes, to_be, put, written, Write}
use Rattle.be.proofs.Bools.{and_both, every_append, every_head, every_tail, every_cons}

pub bytes_append : (xs ys : List ℕ) → bytes xs ≡ true → bytes ys ≡ true → bytes (xs ++ ys) ≡ true
bytes_append xs ys h k = every_append (λ x. ltb x 256) xs ys ∙ and_both (bytes xs) (bytes ys) h k

pub bytes_to_be : (n v : ℕ) → bytes (to_be n v) ≡ true
unfolding to_be
bytes_to_be zero v = refl
bytes_to_be (suc n) v = every_cons (λ x. ltb x 256) (v / 256 ^ n % 256) (to_be n v) (lt-ltb (v / 256 ^ n % 256) 256 (mod-lt (v / 256 ^ n) (zero-lt-suc 255))) (bytes_to_be n v)

pub bytes_zeros : (n : ℕ) → bytes (replicate n 0) ≡ true
bytes_zeros zero = refl
bytes_zeros (suc n) = bytes_zeros n

pub bytes_put : (b : List ℕ) (o : ℕ) (xs : List ℕ) → bytes b ≡ true → bytes xs ≡ true → bytes (put b o xs) ≡ true
unfolding put
bytes_put [] o xs h k = refl
bytes_put (y ∷ ys) zero [] h k = h
bytes_put (y ∷ ys) zero (x ∷ xs) h k =
    every_cons (λ z. ltb z 256) x (put ys zero xs) (every_head (λ z. ltb z 256) x xs k) (bytes_put ys zero xs (every_tail (λ z. ltb z 256) y ys h) (every_tail (λ z. ltb z 256) x xs k))
bytes_put (y ∷ ys) (suc o) xs h k =
    every_cons (λ z. ltb z 256) y (put ys o xs) (every_head (λ z. ltb z 256) y ys h) (bytes_put ys o xs (every_tail (λ z. ltb z 256) y ys h) k)

-- every write is of bytes
abbrev pub All : List Write → Type 0
All [] = Unit {0}
All (w ∷ ws) = (bytes w.what ≡ true) × All ws

pub all_append : (ws vs : List Write) → All ws → All vs → All (ws ++ vs)
all_append [] vs a c = c
all_append (w ∷ ws) vs a c = (a.0, all_append ws vs a.1 c)

pub bytes_written : (b : List ℕ) (ws : List Write) → bytes b ≡ true → All ws → bytes (written b ws) ≡ true
unfolding written
bytes_written b [] h a = h
bytes_written b (w ∷ ws) h a = bytes_written (put b w.place w.what) ws (bytes_put b w.place w.what h a.0) a.1
