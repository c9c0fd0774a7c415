-- What stands stored once in a block and in a book: the two hold the same, and change alike.
-- Assumes nothing.
use Prim.Native.Nat.{ℕ, ◌+◌}
use native.Mathlib.Omega.{arith}
use mathlib.Core.Bool.{Bool, true, not, ◌&&◌, cond}
use mathlib.Core.Path.{◌≡◌, refl, sym, ◌∙◌, ap}
use mathlib.Core.List.{List, [], ◌∷◌, ◌++◌, map}
use Rattle.be.specs.Lists.{some_of, tally, without_first}
use Rattle.be.proofs.Splits.{Split, some_map, split_map, tally_map, tally_mid}
use Rattle.edition.specs.declared.Edition.{Edition}
use Rattle.name.specs.Name.{same_name}
use Rattle.name.proofs.Same.{same_name_refl}
use Rattle.name.proofs.Once.{once, only_one, once_map}
use Rattle.dir.specs.Book.{Held, held, Book, named, holds, same_held, SameBook}
use Rattle.dir.proofs.Books.{FirstNamed, first_same}
use Rattle.dir_block_rules.specs.Record.{Rec, target_of, name, entries}
use Rattle.dir_block_rules.specs.Block.{records}
use Rattle.dir_block_rules.specs.Verdict.{once_ok}
use Rattle.dir_block_rules.specs.Calls.{book_of}

abbrev pub entry_held : Edition → Rec → Held
entry_held e r = held (name r) (target_of e r)

pub holds_entries : (e : Edition) (n b : List ℕ) → holds e n (book_of e b) ≡ some_of (λ r. same_name e n (name r)) (entries (records e b))
unfolding book_of
holds_entries e n b = some_map (named e n) (entry_held e) (entries (records e b))

names_once : (e : Edition) (es : List Rec) → once_ok e es ≡ once e name es
unfolding once_ok
names_once e [] = refl
names_once e (r ∷ es) = ap (λ (t : Bool). not (some_of (λ s. same_name e (name r) (name s)) es) && t) (names_once e es)

-- names are stored once: two entries of one name are one
pub one_entry : (e : Edition) (es : List Rec) → once_ok e es ≡ true → (s t : Split es) → same_name e (name s.here) (name t.here) ≡ true → t.here ≡ s.here
one_entry e es h s t q = sym (only_one e name (name s.here) es (sym (names_once e es) ∙ h) s t (same_name_refl e (name s.here)) q)

-- an entry's name finds that entry in every book that holds the same as the block's
module _ (e : Edition) (b n : List ℕ) (k : Book) (m : SameBook (book_of e b) k) (single : once_ok e (entries (records e b)) ≡ true)
    (s : Split (entries (records e b))) (sn : same_name e n (name s.here) ≡ true) where
  pub first_is : (f : FirstNamed e n k) → f.split.here ≡ entry_held e s.here
  unfolding book_of
  first_is f =
      let es : List Rec = entries (records e b) in
      first_same e n (book_of e b) k m (once_map e (λ h. h.name) (entry_held e) es ∙ sym (names_once e es) ∙ single) (split_map (entry_held e) es s) sn f

-- the book after an insert and after a removal
tally_one : (e : Edition) (p : Held → Bool) (xs : List Rec) (x : Rec) (ys : List Rec)
    → tally p (map (entry_held e) (xs ++ x ∷ ys)) ≡ cond (p (entry_held e x)) 1 0 + tally p (map (entry_held e) (xs ++ ys))
tally_one e p xs x ys =
    tally_map p (entry_held e) (xs ++ x ∷ ys) ∙ tally_mid (λ r. p (entry_held e r)) xs x ys
    ∙ ap (λ (t : ℕ). cond (p (entry_held e x)) 1 0 + t) (sym (tally_map p (entry_held e) (xs ++ ys)))

module _ (e : Edition) (b c : List ℕ) (k : Book) (m : SameBook (book_of e b) k) (xs : List Rec) (x : Rec) (ys : List Rec) where
  pub book_inserted : entries (records e b) ≡ xs ++ ys → entries (records e c) ≡ xs ++ x ∷ ys → SameBook (book_of e c) (entry_held e x ∷ k)
  unfolding SameBook book_of
  book_inserted old new = λ h.
      ap (λ (l : List Rec). tally (same_held h) (map (entry_held e) l)) new ∙ tally_one e (same_held h) xs x ys
      ∙ ap (λ (t : ℕ). cond (same_held h (entry_held e x)) 1 0 + t) (ap (λ (l : List Rec). tally (same_held h) (map (entry_held e) l)) (sym old) ∙ m h)

  pub book_removed : (n : List ℕ) → entries (records e b) ≡ xs ++ x ∷ ys → entries (records e c) ≡ xs ++ ys → once_ok e (entries (records e b)) ≡ true
      → same_name e n (name x) ≡ true → (f : FirstNamed e n k) → SameBook (book_of e c) (without_first (named e n) k)
  unfolding SameBook book_of
  book_removed n old new single sn f = λ h.
      let s : Split (entries (records e b)) = record { before = xs; here = x; behind = ys; is = old } in
      let g : same_held h f.split.here ≡ same_held h (entry_held e x) = ap (same_held h) (first_is e b n k m single s sn f) in
      let all : tally (same_held h) (map (entry_held e) (entries (records e b))) ≡ cond (same_held h (entry_held e x)) 1 0 + tally (same_held h) (map (entry_held e) (entries (records e c))) =
      ap (λ (l : List Rec). tally (same_held h) (map (entry_held e) l)) old ∙ tally_one e (same_held h) xs x ys
      ∙ ap (λ (l : List Rec). cond (same_held h (entry_held e x)) 1 0 + tally (same_held h) (map (entry_held e) l)) (sym new) in
      omega (arith, all, m h, rw g at (f.without (same_held h)))
