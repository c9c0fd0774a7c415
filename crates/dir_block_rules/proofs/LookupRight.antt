-- Demand 2, lookup: number and tag stored under the name, or absent exactly when no live entry bears it, with the names compared.
-- Assumes nothing.
use Prim.Native.Nat.{ℕ, suc, ◌+◌, ◌*◌}
use native.Mathlib.Nat.{zero-add}
use native.Mathlib.Omega.{arith}
use mathlib.Core.Bool.{Bool, true, false, ◌&&◌, cond}
use mathlib.Core.Path.{◌≡◌, refl, sym, ◌∙◌, ap, ap₂, subst}
use mathlib.Core.List.{List, [], ◌∷◌, ◌++◌}
use lib.Dec.{eqb}
use borrow.Author.Tests.{eq-eqb}
use Rattle.std.specs.Prelude.{Ok}
use Rattle.refusal.specs.Refusal.{ABSENT}
use Rattle.be.specs.Lists.{some_of, tally}
use Rattle.be.specs.Bytes.{bytes}
use Rattle.be.proofs.Bools.{and_left, and_right, by_cases}
use Rattle.edition.specs.declared.Edition.{Edition}
use Rattle.edition.specs.Edition.{v4, Sane}
use Rattle.edition.proofs.Sizes.{v4_sane}
use Rattle.name.specs.Name.{hash_of, same_name, legal_name}
use Rattle.name.proofs.Same.{same_name_sym, same_name_trans, same_name_hash}
use Rattle.dir.specs.declared.Looked.TheVariants.{Found, Absent}
use Rattle.dir.specs.declared.Target.{Target}
use Rattle.dir_block_rules.specs.Record.{Rec, entries, name, target_of, tag}
use Rattle.dir_block_rules.specs.Block.{Slot, records, slots, stale_of, is_live}
use Rattle.dir_block_rules.specs.Verdict.{Accepted}
use Rattle.dir.specs.Answers.{looked_code, looked_target, looked_tag, looked_compared}
use Rattle.dir_block_rules.specs.Lookup.{candidate, match, step_if, seek, sought, name_at, target_at, bears, up_to, names_compared, lookup, lookup_refusal, lookup_code, lookup_target, lookup_tag, lookup_compared}
use Rattle.dir_block_rules.specs.Claims.{borne, LookupRight}
use Rattle.be.proofs.Splits.{Split, split_cons, some_at, some_split}
use Rattle.dir_block_rules.proofs.SearchFinds.{Owner, owner, read_at}
use Rattle.dir_block_rules.proofs.AcceptedParts.{good_of, apart_of, reads_of, entry_part}
use Rattle.dir_block_rules.proofs.BooksAgree.{one_entry}
use Rattle.dir_block_rules.proofs.LookupFinds.{hit_of, spot, spot_name, target_found, tag_found}

-- a lookup's number and values
pub values : (e : Edition) (b n : List ℕ)
    → (looked_code (lookup e b n) ≡ lookup_code e b n) × (looked_target (lookup e b n) ≡ lookup_target e b n)
    × (looked_tag (lookup e b n) ≡ lookup_tag e b n) × (looked_compared (lookup e b n) ≡ lookup_compared e b n)
unfolding lookup lookup_code lookup_target lookup_tag lookup_compared
values e b n =
    by_cases (eqb (lookup_refusal e b n) 0)
    (λ q. by_cases (sought e b n).hit (λ h. rw (q, h) (refl, refl, refl, refl)) (λ h. rw (q, h) (refl, refl, refl, refl)))
    (λ q. rw (q, q) (refl, refl, refl, refl))

-- a candidate is counted, any other slot is not
counted : (t : Bool) (c m : ℕ) → step_if t c + m ≡ c + (cond t 1 0 + m)
counted true c m = omega arith
counted false c m = omega arith

-- a search counts the candidates up to and including the match
seek_compared : (e : Edition) (b n : List ℕ) (h k c : ℕ) (ss : List Slot)
    → (seek e b n h k c ss).compared ≡ c + tally (candidate h) (up_to (match e b n h) ss)
unfolding seek up_to
seek_compared e b n h k c [] = omega arith
seek_compared e b n h k c (s ∷ ss) =
    by_cases (match e b n h s)
    (λ q. rw (q, and_left (candidate h s) (same_name e n (name_at b (8 * s.addr))) q) (omega arith))
    (λ q. rw q (seek_compared e b n h (suc k) (step_if (candidate h s) c) ss ∙ counted (candidate h s) c (tally (candidate h) (up_to (match e b n h) ss))))

-- tests that agree at each slot end at the same slot
up_to_same : (p q : Slot → Bool) (ss : List Slot) → ((t : Split ss) → p t.here ≡ q t.here) → up_to p ss ≡ up_to q ss
unfolding up_to
up_to_same p q [] f = refl
up_to_same p q (s ∷ ss) f =
    ap₂ (λ (t : Bool) (l : List Slot). cond t (s ∷ []) (s ∷ l)) (f (record { before = []; here = s; behind = ss; is = refl }))
    (up_to_same p q ss (λ t. f (split_cons s ss t)))

module _ (e : Edition) (sane : Sane e) (b : List ℕ) (h : bytes b ≡ true) (a : Accepted e b) (n : List ℕ) where
  -- in an accepted block a live slot whose entry has the name has the name's hash, so the search ends exactly there
  bears_hash : (t : Split (slots b)) → bears e b n t.here ≡ true → eqb t.here.hash (hash_of e n) ≡ true
  bears_hash t q =
      let s : Slot = t.here in
      let nm : Bool = same_name e n (name_at b (8 * s.addr)) in
      let o : Owner e (entries (records e b)) s =
      owner e (entries (records e b)) t.before s t.behind (stale_of b) (rw t.is at (good_of e sane b h a).index) (apart_of e sane b h a) (and_left (is_live s) nm q) in
      let rd : name_at b (8 * s.addr) ≡ name o.split.here =
      ap (λ (x : ℕ). name_at b (8 * x)) (sym o.addr_is)
      ∙ read_at e b n (entries (records e b)) (slots b) (stale_of b) (good_of e sane b h a).index (apart_of e sane b h a) (reads_of e sane b h a) o.split in
      let sn : same_name e n (name o.split.here) ≡ true = subst (λ (l : List ℕ). same_name e n l ≡ true) rd (and_right (is_live s) nm q) in
      eq-eqb s.hash (hash_of e n) (sym o.hash_is ∙ sym (same_name_hash e n (name o.split.here) sn))

  match_bears : (t : Split (slots b)) → match e b n (hash_of e n) t.here ≡ bears e b n t.here
  match_bears t = agree (is_live t.here) (eqb t.here.hash (hash_of e n)) (same_name e n (name_at b (8 * t.here.addr))) (bears_hash t)
    where
      agree : (l g m : Bool) → ((l && m) ≡ true → g ≡ true) → (l && g && m) ≡ (l && m)
      agree false g m f = refl
      agree true true m f = refl
      agree true false true f = f refl
      agree true false false f = refl

  -- the search's own count is the count that is defined apart from it
  pub compared_right : (sought e b n).compared ≡ names_compared e b n
  unfolding sought names_compared
  compared_right =
      seek_compared e b n (hash_of e n) 0 0 (slots b) ∙ zero-add (tally (candidate (hash_of e n)) (up_to (match e b n (hash_of e n)) (slots b)))
      ∙ ap (tally (candidate (hash_of e n))) (up_to_same (match e b n (hash_of e n)) (bears e b n) (slots b) match_bears)

  module _ (l : legal_name e n ≡ true) where
    looked_found : (xs : List Rec) (r : Rec) (ys : List Rec) → entries (records e b) ≡ xs ++ r ∷ ys → same_name e n (name r) ≡ true
        → lookup e b n ≡ Ok (Found (target_of e r) (tag r) (names_compared e b n))
    unfolding lookup lookup_refusal
    looked_found xs r ys q sn =
        let t : Split (entries (records e b)) = record { before = xs; here = r; behind = ys; is = q } in
        let bn : borne e b n ≡ true = ap (some_of (λ r. same_name e n (name r))) q ∙ some_at (λ r. same_name e n (name r)) xs r ys sn in
        let ht : (sought e b n).hit ≡ true = hit_of e sane b h a n ∙ bn in
        let s : Split (entries (records e b)) = spot e sane b h a n ht in
        let rs : same_name e (name r) (name s.here) ≡ true =
        same_name_trans e (name r) n (name s.here) (same_name_sym e n (name r) sn) (spot_name e sane b h a n ht) in
        let tr : target_at e b (sought e b n).at ≡ target_of e r =
        target_found e sane b h a n ht ∙ ap (target_of e) (one_entry e (entries (records e b)) (good_of e sane b h a).once t s rs) in
        let tg : (sought e b n).at ≡ tag r = tag_found e sane b h a n ht ∙ ap tag (one_entry e (entries (records e b)) (good_of e sane b h a).once t s rs) in
        rw (a, l, ht) (ap₂ (λ (i : Target) (g : ℕ). Ok (Found i g (names_compared e b n))) tr tg)

    looked_absent : borne e b n ≡ false → lookup e b n ≡ Ok (Absent (names_compared e b n))
    unfolding lookup lookup_refusal
    looked_absent q = rw (a, l, hit_of e sane b h a n ∙ q) refl

    -- 0 where some live entry bears the name, else 13
    looked_exactly : looked_code (lookup e b n) ≡ cond (borne e b n) 0 ABSENT
    looked_exactly =
        by_cases (borne e b n)
        (λ q. let t : (t : Split (entries (records e b))) × (same_name e n (name t.here) ≡ true) =
        some_split (λ r. same_name e n (name r)) (entries (records e b)) q in
        rw q (ap looked_code (looked_found t.0.before t.0.here t.0.behind t.0.is t.1)))
        (λ q. rw q (ap looked_code (looked_absent q)))

pub lookup_right : (e : Edition) → Sane e → LookupRight e
unfolding LookupRight
lookup_right e sane b n h a l =
    record {
      found = λ xs r ys q sn. (looked_found e sane b h a n l xs r ys q sn, entry_part e sane b h a (record { before = xs; here = r; behind = ys; is = q }));
      absent = looked_absent e sane b h a n l;
      exactly = looked_exactly e sane b h a n l;
    }

pub v4_lookup_right : LookupRight v4
v4_lookup_right = lookup_right v4 v4_sane
