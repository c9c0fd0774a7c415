-- What a change leaves is bytes.
-- Assumes nothing.
use Prim.Native.Nat.{ℕ, ◌-◌, ◌*◌, ◌≤◌, ◌<◌}
use native.Mathlib.Omega.{arith}
use mathlib.Core.Bool.{true}
use mathlib.Core.Path.{◌≡◌, refl}
use mathlib.Core.List.{List, [], ◌∷◌, ◌++◌}
use lib.Dec.{ltb}
use lib.ListN.{length, replicate}
use borrow.Author.Tests.{lt-ltb}
use Rattle.be.specs.Lists.{every}
use Rattle.be.specs.Bytes.{bytes, to_be, write}
use Rattle.be.proofs.Bools.{and_left, every_head, every_tail, every_cons}
use Rattle.be.proofs.BytesStay.{bytes_append, bytes_to_be, bytes_zeros, bytes_written}
use Rattle.edition.specs.declared.Edition.{Edition}
use Rattle.name.specs.Name.{legal_name}
use Rattle.name.proofs.Legality.{legal_bounds}
use Rattle.dinode.specs.Core.{size_place, data_length}
use Rattle.dir_sf.specs.Entry.{SfEntry, width_of, entry_bytes, entries_bytes, wides_of}
use Rattle.dir_sf.specs.Fork.{parent, name_ok, names_ok, lay, lay_fork}
use Rattle.dir_sf.specs.Inode.{used, with_entries}
use Rattle.dir_sf_edit.proofs.Insertions.{lay_few, wides_le}

entry_is : (e : Edition) (w : ℕ) (x : SfEntry) → bytes x.name ≡ true → length x.name < 256 → bytes (entry_bytes e w x) ≡ true
unfolding entry_bytes
entry_is e w x h l =
    let t : List ℕ = to_be 2 x.tag in
    let k : List ℕ = to_be e.ftype x.target.kind in
    let i : List ℕ = to_be w x.target.inode in
    every_cons (λ z. ltb z 256) (length x.name) (t ++ (x.name ++ (k ++ i))) (lt-ltb (length x.name) 256 l)
    (bytes_append t (x.name ++ (k ++ i)) (bytes_to_be 2 x.tag)
    (bytes_append x.name (k ++ i) h (bytes_append k i (bytes_to_be e.ftype x.target.kind) (bytes_to_be w x.target.inode))))

entries_are : (e : Edition) (w : ℕ) (xs : List SfEntry) → every (name_ok e) xs ≡ true → every (λ x. bytes x.name) xs ≡ true → bytes (entries_bytes e w xs) ≡ true
entries_are e w [] n h = refl
entries_are e w (x ∷ xs) n h =
    let l = legal_bounds e x.name (and_left (legal_name e x.name) _ (every_head (name_ok e) x xs n)) in
    bytes_append (entry_bytes e w x) (entries_bytes e w xs) (entry_is e w x (every_head (λ y. bytes y.name) x xs h) (omega arith))
    (entries_are e w xs (every_tail (name_ok e) x xs n) (every_tail (λ y. bytes y.name) x xs h))

module _ (e : Edition) (p : ℕ) (xs : List SfEntry) (n : names_ok e xs ≡ true) (h : every (λ x. bytes x.name) xs ≡ true) (short : length (lay e p xs) ≤ 1948) where
  few : 8 * length xs ≤ 1948
  few = omega (arith, lay_few e p xs n)

  lay_is : bytes (lay e p xs) ≡ true
  unfolding lay names_ok
  lay_is =
      let w : ℕ = width_of (wides_of p xs) in
      let q : bytes (to_be w p ++ entries_bytes e w xs) ≡ true = bytes_append (to_be w p) (entries_bytes e w xs) (bytes_to_be w p) (entries_are e w xs n h) in
      every_cons (λ z. ltb z 256) (length xs) (wides_of p xs ∷ to_be w p ++ entries_bytes e w xs) (lt-ltb (length xs) 256 (omega (arith, few)))
      (every_cons (λ z. ltb z 256) (wides_of p xs) (to_be w p ++ entries_bytes e w xs) (lt-ltb (wides_of p xs) 256 (omega (arith, few, wides_le p xs))) q)

  fork_is : (m : ℕ) → bytes (lay_fork e m p xs) ≡ true
  unfolding lay_fork
  fork_is m = bytes_append (lay e p xs) (replicate (m - length (lay e p xs)) 0) lay_is (bytes_zeros (m - length (lay e p xs)))

pub with_bytes : (e : Edition) (b : List ℕ) (xs : List SfEntry) → bytes b ≡ true → names_ok e xs ≡ true → every (λ x. bytes x.name) xs ≡ true
    → length (lay e (parent (used e b)) xs) ≤ 1948 → bytes (with_entries e b xs) ≡ true
unfolding with_entries
with_bytes e b xs by n h short =
    let p : ℕ = parent (used e b) in
    bytes_written b (write size_place (to_be 8 (length (lay e p xs))) ∷ write e.literal (lay_fork e (data_length e b) p xs) ∷ []) by
    (bytes_to_be 8 (length (lay e p xs)), (fork_is e p xs n h short (data_length e b), tt))
