-- An insert by a case of the room rule, on a block put together from parts: what its writes leave.
-- Assumes nothing.
use Prim.Native.Nat.{ℕ, ◌+◌, ◌*◌, ◌^◌, ◌≤◌, ◌<◌}
use native.Mathlib.Omega.{arith}
use mathlib.Core.Path.{◌≡◌, refl, sym, ◌∙◌, ap}
use mathlib.Core.List.{List, ◌∷◌, ◌++◌, append_assoc}
use lib.ListN.{length, drop, length-append, length-drop}
use Rattle.be.specs.Bytes.{written}
use Rattle.edition.specs.declared.Edition.{Edition}
use Rattle.edition.specs.Edition.{entry_size}
use Rattle.dir.specs.declared.Target.{Target}
use Rattle.dir_block_rules.specs.Record.{Rec, rec, entry_bytes}
use Rattle.dir_block_rules.specs.Block.{Slot, slot_bytes}
use Rattle.dir_block_rules.specs.Change.{entry_writes, index_writes}
use Rattle.dir_block_rules.proofs.CutJoin.{join, Laid, join_append}
use Rattle.dir_block_rules.proofs.BlockParts.{build, tail_bytes}
use Rattle.be.proofs.Writes.{length_written}
use Rattle.dir_block_rules.proofs.WritesLeave.{written_append, entry_written, index_written, free, Gapful, length_free, free_laid, entry_whole, length_entry_bytes}

-- the records that an entry of name n and number i at offset o leaves of the free bytes c
abbrev pub placed : Edition → ℕ → Target → List ℕ → List ℕ → List Rec
placed e o i n c = rec o (entry_bytes e o i n) ∷ free (o + entry_size e (length n)) (drop (entry_size e (length n)) c)

pub length_placed : (e : Edition) (o : ℕ) (i : Target) (n c : List ℕ) → entry_size e (length n) ≤ length c → Gapful (drop (entry_size e (length n)) c)
    → length (join (placed e o i n c)) ≡ length c
length_placed e o i n c h g =
    rw (length-append, length_entry_bytes e o i n, length_free (o + entry_size e (length n)) (drop (entry_size e (length n)) c) g) (simp length-drop (omega arith))

pub placed_laid : (e : Edition) (o : ℕ) (i : Target) (n c : List ℕ) → entry_size e (length n) ≤ length c → Gapful (drop (entry_size e (length n)) c)
    → i.inode < 2 ^ 56 → o + length c < 256 ^ 2 → Laid e o (placed e o i n c)
placed_laid e o i n c h g k l = (
  refl,
  entry_whole e o i n k (omega arith),
  rw (length_entry_bytes e o i n) (free_laid e (o + entry_size e (length n)) (drop (entry_size e (length n)) c) g (simp length-drop (omega arith)) (omega arith)),
)

pub regroup : (hd a m y r : List ℕ) → hd ++ a ++ (m ++ (y ++ r)) ≡ hd ++ (a ++ (m ++ y)) ++ r
regroup hd a m y r = simp append_assoc

pub join_three : (xs ms ys : List Rec) → join (xs ++ (ms ++ ys)) ≡ join xs ++ (join ms ++ join ys)
join_three xs ms ys = join_append xs (ms ++ ys) ∙ ap (λ (l : List ℕ). join xs ++ l) (join_append ms ys)

-- the entry's writes alone
pub entered : (e : Edition) (i : Target) (n hd : List ℕ) (xs : List Rec) (c : List ℕ) (ys : List Rec) (r : List ℕ) (o : ℕ)
    → length (hd ++ join xs) ≡ o → entry_size e (length n) ≤ length c → Gapful (drop (entry_size e (length n)) c)
    → written (hd ++ (join xs ++ (c ++ (join ys ++ r)))) (entry_writes e i n o (o + length c)) ≡ hd ++ join (xs ++ (placed e o i n c ++ ys)) ++ r
entered e i n hd xs c ys r o h l g =
    ap (λ (d : List ℕ). written d (entry_writes e i n o (o + length c))) (sym (append_assoc hd (join xs) (c ++ (join ys ++ r))))
    ∙ entry_written e i n (hd ++ join xs) c (join ys ++ r) o h l g
    ∙ regroup hd (join xs) (join (placed e o i n c)) (join ys) r
    ∙ ap (λ (d : List ℕ). hd ++ d ++ r) (sym (join_three xs (placed e o i n c) ys))

-- (a), (b), (d): the free bytes c lie behind the records xs; behind them the records ys, and then the bytes r, which the new index takes
module _ (e : Edition) (i : Target) (n hd : List ℕ) (xs : List Rec) (c : List ℕ) (ys : List Rec) (r : List ℕ) (o len : ℕ) (ts : List Slot) (m : ℕ)
    (h : length (hd ++ join xs) ≡ o) (l : entry_size e (length n) ≤ length c) (g : Gapful (drop (entry_size e (length n)) c))
    (k : length r ≡ 8 * length ts + 8) (v : length (hd ++ (join xs ++ (c ++ (join ys ++ r)))) ≡ len) where
  old : List ℕ
  old = hd ++ (join xs ++ (c ++ (join ys ++ r)))

  front : List ℕ
  front = hd ++ join (xs ++ (placed e o i n c ++ ys))

  entry_in : written old (entry_writes e i n o (o + length c)) ≡ front ++ r
  unfolding old front
  entry_in = entered e i n hd xs c ys r o h l g

  lengths : length front + length r ≡ len
  unfolding old
  lengths = sym (length-append front r) ∙ ap length (sym entry_in) ∙ length_written old (entry_writes e i n o (o + length c)) ∙ v

  pub inserted : written (hd ++ (join xs ++ (c ++ (join ys ++ r)))) (entry_writes e i n o (o + length c) ++ index_writes len ts m)
      ≡ build hd (xs ++ (placed e o i n c ++ ys)) ts m
  unfolding old front
  inserted =
      written_append old (entry_writes e i n o (o + length c)) (index_writes len ts m)
      ∙ ap (λ (d : List ℕ). written d (index_writes len ts m)) entry_in
      ∙ index_written front r ts m len lengths k
      ∙ append_assoc hd (join (xs ++ (placed e o i n c ++ ys))) (slot_bytes ts ++ tail_bytes (length ts) m)
