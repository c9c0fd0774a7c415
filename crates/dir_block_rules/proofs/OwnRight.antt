-- No directory inside itself, as callers see it.
-- Assumes nothing.
use Prim.Native.Nat.{ℕ}
use mathlib.Core.Bool.{true, false, not, ◌||◌}
use mathlib.Core.Path.{◌≡◌, refl, sym, ◌∙◌, ap, subst}
use mathlib.Core.List.{List}
use lib.Dec.{eqb}
use borrow.Author.Tests.{not-true}
use Rattle.be.specs.Lists.{every}
use Rattle.be.specs.Bytes.{bytes}
use Rattle.be.proofs.Bools.{and_right, and_false}
use Rattle.be.proofs.Codes.{both, passes}
use Rattle.be.proofs.Splits.{Split, every_at}
use Rattle.edition.specs.declared.Edition.{Edition}
use Rattle.edition.specs.Edition.{v4, Sane}
use Rattle.edition.proofs.Sizes.{v4_sane}
use Rattle.name.specs.Name.{legal_name, legal_number, fixed_name, dot}
use Rattle.name.proofs.Legality.{dot_legal}
use Rattle.name.proofs.Same.{same_name_fixed, same_name_sym, same_name_trans}
use Rattle.dir.specs.declared.Target.{Target}
use Rattle.dir.specs.Target.{legal_in, legal_target}
use Rattle.dir_block_rules.specs.Record.{Rec, name, number, entries}
use Rattle.dir_block_rules.specs.Block.{records}
use Rattle.dir_block_rules.specs.Verdict.{Accepted, own_of, number_fits, number_ok, numbers_ok}
use Rattle.dir_block_rules.specs.Lookup.{sought, lookup_refusal, lookup_code, lookup_target}
use Rattle.dir_block_rules.specs.Claims.{OutsideItself, OwnRight}
use Rattle.dir_block_rules.proofs.AcceptedParts.{good_of}
use Rattle.dir_block_rules.proofs.BooksAgree.{one_entry}
use Rattle.dir_block_rules.proofs.LookupFinds.{hit_of, spot, spot_name, target_found}
use Rattle.dir_block_rules.proofs.OwnHeld.{own, own_named, own_borne}
use Rattle.dir_block_rules.proofs.EachCall.{insert_code_is}

module _ (e : Edition) (sane : Sane e) (b : List ℕ) (h : bytes b ≡ true) (a : Accepted e b) where
  -- a lookup that is done gives what its search found
  module _ (n : List ℕ) where
    code_is : legal_name e n ≡ true → (sought e b n).hit ≡ true → lookup_code e b n ≡ 0
    unfolding lookup_code lookup_refusal
    code_is l q = rw (a, l, q) refl

    found_is : (q : (sought e b n).hit ≡ true) → lookup_code e b n ≡ 0 → (lookup_target e b n).inode ≡ number (spot e sane b h a n q).here
    unfolding lookup_target
    found_is q z = rw z (ap (λ (t : Target). t.inode) (target_found e sane b h a n q))

    was_hit : lookup_code e b n ≡ 0 → (sought e b n).hit ≡ true
    unfolding lookup_code
    was_hit z = (passes (sought e b n).hit 12 0 (both (lookup_refusal e b n) _ z).1).0

  dot_hit : (sought e b dot).hit ≡ true
  dot_hit = hit_of e sane b h a dot ∙ own_borne e sane b h a

  -- a lookup of "." gives the directory's own number
  own_found : (lookup_target e b dot).inode ≡ own_of e b
  own_found =
      let s : Split (entries (records e b)) = (own e sane b h a).0 in
      let t : Split (entries (records e b)) = spot e sane b h a dot dot_hit in
      found_is dot dot_hit (code_is dot (dot_legal e) dot_hit)
      ∙ ap number (one_entry e (entries (records e b)) (good_of e sane b h a).once s t
      (same_name_trans e (name s.here) dot (name t.here) (same_name_sym e dot (name s.here) (own_named e sane b h a)) (spot_name e sane b h a dot dot_hit)))
      ∙ sym (own e sane b h a).2

  found_other : (n : List ℕ) → fixed_name n ≡ false → lookup_code e b n ≡ 0 → eqb (lookup_target e b n).inode (lookup_target e b dot).inode ≡ false
  unfolding numbers_ok number_fits
  found_other n f z =
      let q : (sought e b n).hit ≡ true = was_hit n z in
      let s : Split (entries (records e b)) = spot e sane b h a n q in
      let r : Rec = s.here in
      let ok : number_ok e (own_of e b) r ≡ true =
      every_at (number_ok e (own_of e b)) s.before r s.behind (subst (λ (l : List Rec). every (number_ok e (own_of e b)) l ≡ true) s.is (good_of e sane b h a).numbers) in
      let g : fixed_name (name r) ≡ false = sym (same_name_fixed e n (name r) (spot_name e sane b h a n q)) ∙ f in
      let k : (fixed_name (name r) || not (eqb (number r) (own_of e b))) ≡ true = and_right (legal_number (number r)) _ ok in
      rw (found_is n q z, own_found) (not-true (eqb (number r) (own_of e b)) (rw g at k))

  pub outside_itself : OutsideItself e b
  unfolding legal_in
  outside_itself = record {
    own = code_is dot (dot_legal e) dot_hit;
    found = found_other;
    asked = λ n i q.
        insert_code_is e sane b h a n i
        ∙ rw (subst (λ (o : ℕ). eqb i.inode o ≡ true) own_found q, and_false (legal_target e i), and_false (legal_name e n)) refl;
  }

pub own_right : (e : Edition) → Sane e → OwnRight e
unfolding OwnRight
own_right e sane b h a = outside_itself e sane b h a

pub v4_own_right : OwnRight v4
v4_own_right = own_right v4 v4_sane
