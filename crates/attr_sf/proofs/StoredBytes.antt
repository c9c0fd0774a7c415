-- What is stored, written out again, is the bytes that were read.
-- Assumes nothing.
use Prim.Native.Nat.{ℕ, suc, ◌+◌, ◌≤◌}
use native.Mathlib.Omega.{arith}
use native.Mathlib.Numerals.{add-one, add-two}
use native.Mathlib.Nat.{add_assoc}
use mathlib.Core.Path.{◌≡◌, sym, ◌∙◌, ap}
use mathlib.Core.List.{List, [], ◌∷◌, ◌++◌}
use lib.ListN.{length}
use lib.Seq.{drop-cons}
use Rattle.be.specs.Bytes.{byte, part}
use Rattle.be.proofs.Parts.{part_add, part_length}
use Rattle.attr_sf.specs.Entry.{entry_bytes}
use Rattle.attr_sf.specs.Fork.{size_at, entry_at}

three_bytes : (o : ℕ) (f : List ℕ) → o + 3 ≤ length f → part o 3 f ≡ byte o f ∷ byte (o + 1) f ∷ byte (o + 2) f ∷ []
three_bytes o f h =
    rw (add-one o, add-two o, drop-cons f o 0 (omega arith), drop-cons f (suc o) 0 (omega arith), drop-cons f (suc (suc o)) 0 (omega arith))

pub stored_bytes : (f : List ℕ) (at : ℕ) → at + size_at f at ≤ length f → part at (size_at f at) f ≡ entry_bytes (entry_at f at)
unfolding size_at entry_bytes entry_at
stored_bytes f at h =
    let k : ℕ = byte at f in
    let v : ℕ = byte (at + 1) f in
    let a : part at (3 + k + v) f ≡ part at 3 f ++ (part (at + 3) k f ++ part (at + 3 + k) v f) =
    ap (λ (n : ℕ). part at n f) (add_assoc 3 k v) ∙ part_add at 3 (k + v) f ∙ ap (λ (l : List ℕ). part at 3 f ++ l) (part_add (at + 3) k v f) in
    rw (a, three_bytes at f (omega arith), part_length (at + 3) k f (omega arith), part_length (at + 3 + k) v f (omega arith))

pub stored_size : (f : List ℕ) (at : ℕ) → at + size_at f at ≤ length f → length (entry_bytes (entry_at f at)) ≡ size_at f at
stored_size f at h = ap length (sym (stored_bytes f at h)) ∙ part_length at (size_at f at) f h
