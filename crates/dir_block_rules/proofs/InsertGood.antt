-- An insert leaves good parts: (a), (b) and (d) of the room rule at once, over where the free bytes lie.
-- Assumes nothing.
use Prim.Native.Nat.{ℕ, ◌+◌, ◌/◌, ◌%◌, ◌^◌, ◌≤◌, ◌<◌}
use native.Mathlib.Omega.{arith}
use mathlib.Core.Bool.{true, false}
use mathlib.Core.Path.{◌≡◌, refl, ◌∙◌, ap, subst}
use mathlib.Core.List.{List, [], ◌∷◌, ◌++◌}
use lib.ListN.{length, drop, length-drop}
use Rattle.be.proofs.Bools.{keep_append}
use Rattle.edition.proofs.Sizes.{entry_size_eights}
use Rattle.be.specs.Lists.{some_of}
use Rattle.be.specs.Bytes.{be, be_from}
use Rattle.edition.specs.declared.Edition.{Edition}
use Rattle.edition.specs.Edition.{entry_size, Sane}
use Rattle.name.specs.Name.{hash_of, same_name, legal_name, fixed_name}
use Rattle.dir.specs.declared.Target.{Target}
use Rattle.dir_block_rules.specs.Record.{Rec, rec, is_entry, entries, apart, gap_start, name, number, entry_bytes}
use Rattle.dir_block_rules.specs.Block.{Slot, slot}
use Rattle.dir.specs.Target.{legal_in}
use Rattle.dir_block_rules.specs.Verdict.{own_in}
use Rattle.dir_block_rules.specs.Change.{insert_slot}
use Rattle.dir_block_rules.proofs.CutJoin.{join, Laid, laid_append}
use Rattle.dir_block_rules.proofs.WritesLeave.{free, Gapful, gap_raw, entry_no_gap}
use Rattle.dir_block_rules.proofs.IndexedEntries.{Kept}
use Rattle.dir_block_rules.proofs.GoodParts.{Good}
use Rattle.dir_block_rules.proofs.OwnNumber.{number_stands}
use Rattle.dir.proofs.FileTypes.{target_number, asked_target}
use Rattle.dir_block_rules.proofs.EntryMore.{good_insert, entry_name, entry_number}
use Rattle.dir_block_rules.proofs.InsertWrites.{placed, placed_laid, length_placed}
use Rattle.dir_block_rules.proofs.GapsApart.{Follows, from_follows, weaken, last_gap?, follows_append, follows_entry}

pub gapful : (d : List ℕ) → length d % 8 ≡ 0 → Gapful d
gapful [] h = tt
gapful (x ∷ xs) h = (omega arith, h)

-- the gap that is left is no entry, and may be followed by what may follow a gap
pub gap_raw_gap : (o : ℕ) (c : List ℕ) → gap_start (gap_raw o c) ≡ true
unfolding be be_from
gap_raw_gap o c = refl

pub free_entries : (o : ℕ) (c : List ℕ) → entries (free o c) ≡ []
free_entries o [] = refl
free_entries o (x ∷ xs) = rw (gap_raw_gap o (x ∷ xs))

pub free_follows : (o : ℕ) (c : List ℕ) (ys : List Rec) → Follows true ys → Follows false (free o c ++ ys)
free_follows o [] ys h = weaken true ys h
free_follows o (x ∷ xs) ys h = (refl, rw (gap_raw_gap o (x ∷ xs)) h)

module _ (e : Edition) (sane : Sane e) (i : Target) (n : List ℕ) (xs : List Rec) (c : List ℕ) (ys : List Rec) (o : ℕ) where
  E : ℕ
  E = entry_size e (length n)

  unfoldable pub new_entry : Rec
  new_entry = rec o (entry_bytes e o i n)

  unfoldable pub new_records : List Rec
  new_records = xs ++ (placed e o i n c ++ ys)

  pub new_entries : i.inode < 2 ^ 56 → entries new_records ≡ entries xs ++ new_entry ∷ entries ys
  unfolding new_records new_entry
  new_entries k =
      keep_append is_entry xs (placed e o i n c ++ ys)
      ∙ ap (λ (l : List Rec). entries xs ++ l)
      (rw (entry_no_gap e o i n k)
      (ap (λ (l : List Rec). rec o (entry_bytes e o i n) ∷ l)
      (keep_append is_entry (free (o + entry_size e (length n)) (drop (entry_size e (length n)) c)) ys
      ∙ ap (λ (l : List Rec). l ++ entries ys) (free_entries (o + entry_size e (length n)) (drop (entry_size e (length n)) c)))))

  pub new_apart : i.inode < 2 ^ 56 → Follows false xs → Follows true ys → apart new_records ≡ true
  unfolding new_records
  new_apart k fx fy =
      from_follows false (xs ++ (placed e o i n c ++ ys))
      (follows_append false xs (placed e o i n c ++ ys) fx
      (follows_entry (last_gap? false xs) (rec o (entry_bytes e o i n)) (free (o + entry_size e (length n)) (drop (entry_size e (length n)) c) ++ ys) (entry_no_gap e o i n k)
      (free_follows (o + entry_size e (length n)) (drop (entry_size e (length n)) c) ys fy)))

  pub new_laid : i.inode < 2 ^ 56 → e.header + length (join xs) ≡ o → entry_size e (length n) ≤ length c → length c % 8 ≡ 0 → o + length c < 256 ^ 2
      → Laid e e.header xs → Laid e (o + length c) ys → Laid e e.header new_records
  unfolding new_records
  new_laid k q l m b lx ly =
      let g : Gapful (drop (entry_size e (length n)) c) = gapful (drop (entry_size e (length n)) c) (simp length-drop (omega (arith, entry_size_eights e (length n)))) in
      laid_append e e.header xs (placed e o i n c ++ ys) lx
      (rw q (laid_append e o (placed e o i n c) ys (placed_laid e o i n c l g k b) (rw (length_placed e o i n c l g) ly)))

  pub new_good : (rs : List Rec) (ss ts : List Slot) (st m : ℕ) → Good e rs ss st → Kept ss ts m
      → entries rs ≡ entries xs ++ entries ys → Laid e e.header new_records → apart new_records ≡ true
      → legal_name e n ≡ true → legal_in e (own_in e (entries xs ++ entries ys)) i ≡ true → i.inode < 2 ^ 56 → fixed_name n ≡ false
      → some_of (λ r. same_name e n (name r)) (entries xs ++ entries ys) ≡ false
      → Good e new_records (insert_slot (slot (hash_of e n) (o / 8)) ts) m
  unfolding new_entry
  new_good rs ss ts st m g k old l ap' lg ln ib fx ab =
      let nm : name new_entry ≡ n = entry_name e o i n in
      let nr : number new_entry ≡ i.inode = entry_number e o i n (omega arith) in
      let own : ℕ = own_in e (entries xs ++ entries ys) in
      subst (λ (w : List ℕ). Good e new_records (insert_slot (slot (hash_of e w) (o / 8)) ts) m) nm
      (good_insert e rs new_records (entries xs) new_entry (entries ys) ss ts st m sane g k l ap' old (new_entries ib)
      (rw nm lg) (number_stands e own new_entry (rw nr (target_number e i (asked_target e i own ln).0)) (rw nr (asked_target e i own ln).1)) (rw nm fx) (rw nm ab))
