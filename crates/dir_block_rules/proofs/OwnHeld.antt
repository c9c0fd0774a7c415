-- The directory's own number in an accepted block: it stands at the header's end, and a book holds it for ".".
-- Assumes nothing.
use Prim.Native.Nat.{ℕ, ◌+◌}
use mathlib.Core.Bool.{Bool, true, false, ◌&&◌, beq, false≢true}
use mathlib.Core.Path.{◌≡◌, refl, sym, ◌∙◌, ap, subst}
use mathlib.Core.List.{List}
use lib.Dec.{eqb}
use borrow.Author.Tests.{eqb-true}
use Rattle.be.specs.Lists.{every, some_of, same}
use Rattle.be.specs.Bytes.{bytes}
use Rattle.be.proofs.Bools.{and_left, and_right}
use Rattle.be.proofs.Splits.{Split, some_at, every_at}
use Rattle.edition.specs.declared.Edition.{Edition}
use Rattle.edition.specs.Edition.{Sane}
use Rattle.name.specs.Name.{legal_name, same_name, dot, dotdot}
use Rattle.name.proofs.Same.{same_eq, same_name_refl}
use Rattle.dir.specs.declared.Target.{Target}
use Rattle.dir.specs.Book.{Held, Book, own_held, SameBook}
use Rattle.dir.proofs.Books.{holds_same, FirstNamed, first_named}
use Rattle.dir_block_rules.specs.Record.{Rec, name, number, entries}
use Rattle.dir_block_rules.specs.Block.{records}
use Rattle.dir_block_rules.specs.Verdict.{Accepted, name_ok, names_ok, entry_stands, own_of, own_in}
use Rattle.dir_block_rules.specs.Lookup.{number_at}
use Rattle.dir_block_rules.specs.Calls.{book_of}
use Rattle.dir_block_rules.proofs.AcceptedParts.{good_of, target_is}
use Rattle.dir_block_rules.proofs.BooksAgree.{holds_entries, first_is}
use Rattle.dir_block_rules.proofs.OwnNumber.{own_there}

alike : (p q : Bool) → beq p q ≡ true → p ≡ q
alike true true h = refl
alike true false h = absurd (false≢true h)
alike false true h = absurd (false≢true h)
alike false false h = refl

-- "." stands at the header's end and ".." 16 further, nowhere else
module _ (e : Edition) (r : Rec) (h : name_ok e r ≡ true) where
  abbrev dot_fits : Bool
  dot_fits = beq (same (name r) dot) (eqb r.off e.header)

  pub dot_place : same (name r) dot ≡ eqb r.off e.header
  dot_place = alike _ _ (and_right (legal_name e (name r)) dot_fits (and_left (legal_name e (name r) && dot_fits) _ h))

  pub dotdot_place : same (name r) dotdot ≡ eqb r.off (e.header + 16)
  dotdot_place = alike _ _ (and_right (legal_name e (name r) && dot_fits) _ h)

module _ (e : Edition) (sane : Sane e) (b : List ℕ) (h : bytes b ≡ true) (a : Accepted e b) where
  abbrev es : List Rec
  es = entries (records e b)

  -- both stand there, and names are in their places
  pub fixed_there : (every (name_ok e) es ≡ true) × (entry_stands e.header (records e b) ≡ true) × (entry_stands (e.header + 16) (records e b) ≡ true)
  unfolding names_ok
  fixed_there =
      let n : Bool = every (name_ok e) es in
      let d : Bool = entry_stands e.header (records e b) in
      let ok = (good_of e sane b h a).names in
      (and_left n d (and_left (n && d) _ ok), and_right n d (and_left (n && d) _ ok), and_right (n && d) _ ok)

  -- the entry "."
  pub own : (s : Split es) × (eqb s.here.off e.header ≡ true) × (own_in e es ≡ number s.here)
  own = own_there e es fixed_there.1

  pub own_named : same_name e dot (name own.0.here) ≡ true
  own_named =
      let r : Rec = own.0.here in
      let k : name_ok e r ≡ true = every_at (name_ok e) own.0.before r own.0.behind (subst (λ (l : List Rec). every (name_ok e) l ≡ true) own.0.is fixed_there.0) in
      subst (λ (n : List ℕ). same_name e dot n ≡ true) (sym (same_eq (name r) dot (dot_place e r k ∙ own.1))) (same_name_refl e dot)

  pub own_borne : some_of (λ r. same_name e dot (name r)) es ≡ true
  own_borne = ap (some_of (λ r. same_name e dot (name r))) own.0.is ∙ some_at (λ r. same_name e dot (name r)) own.0.before own.0.here own.0.behind own_named

  pub own_read : own_of e b ≡ number_at b e.header
  own_read =
      own.2 ∙ sym (ap (λ (t : Target). t.inode) (target_is e sane b h a own.0))
      ∙ ap (number_at b) (eqb-true own.0.here.off e.header own.1)

  pub own_same : (k : Book) → SameBook (book_of e b) k → own_held e k ≡ own_of e b
  own_same k m =
      let f : FirstNamed e dot k = first_named e dot k (sym (holds_same e dot (book_of e b) k m) ∙ holds_entries e dot b ∙ own_borne) in
      ap (λ (t : Target). t.inode) f.target_is
      ∙ ap (λ (x : Held). x.target.inode) (first_is e b dot k m (good_of e sane b h a).once own.0 own_named f)
      ∙ sym own.2
