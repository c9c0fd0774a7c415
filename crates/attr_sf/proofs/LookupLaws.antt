-- A lookup answers by the entries that have the name and the flags: the value of the first, or absent.
-- Assumes nothing.
use Prim.Native.Nat.{ℕ, ◌+◌, ◌-◌, ◌≤◌, ◌<◌}
use native.Mathlib.Omega.{arith}
use mathlib.Core.Bool.{Bool, true, false, not}
use mathlib.Core.Path.{◌≡◌, refl, sym, ◌∙◌, ap}
use mathlib.Core.List.{List, [], ◌∷◌, ◌++◌}
use lib.Dec.{eqb}
use lib.ListN.{length, take, drop}
use borrow.Author.Tests.{ltb-true, not-true}
use Rattle.std.specs.Prelude.{Result, Ok, Err}
use Rattle.std.specs.Result.{IsErrAnd}
use Rattle.refusal.specs.declared.Refusal.{Refusal}
use Rattle.refusal.specs.Refusal.{ABSENT, number, numbered, outcome}
use Rattle.refusal.proofs.Passed.{passed_on, outcome_answered, ok_done, ok_given}
use Rattle.be.specs.Lists.{some_of, keep}
use Rattle.be.proofs.Codes.{both}
use Rattle.be.proofs.Bools.{by_cases, neither, clash, and_left, and_right, keep_append}
use Rattle.be.proofs.Splits.{some_mid, some_at, every_at}
use Rattle.edition.specs.declared.Edition.{Edition}
use Rattle.dinode.specs.Core.{attr_start, attr_fork}
use Rattle.dinode.specs.declared.Fork.{Fork}
use Rattle.attr_sf.specs.declared.Place.{Place}
use Rattle.attr_sf.specs.Entry.{Entry, is_key, distinct, run}
use Rattle.attr_sf.specs.Fork.{header, totsize, count, stored, entry_at, key_place, fork_verdict, name_legal_of, flags_legal_of}
use Rattle.attr_sf.specs.Calls.{verdict, asked_code, held, held_request, lookup_code, value_at, found_in, lookup, place_code, start_of, length_of, part_of, lookup_start, lookup_length, LookupPromise}
use Rattle.attr_sf.specs.Inner.{fork_if}
use Rattle.attr_sf.specs.Laws.{Found, FoundLaw, AbsentLaw}
use Rattle.attr_sf.proofs.Tiling.{seek_some}
use Rattle.attr_sf.proofs.ForkTests.{all_ends, all_named, all_flagged, all_once}
use Rattle.attr_sf.proofs.InodeTests.{inode_passed, fork_passed, fork_length, tests_passed, still_asked, lent_fork, first_refused, if_passed, if_refused}
use Rattle.attr_sf.proofs.Seeking.{value_fits}
use Rattle.attr_sf.proofs.OtherEntries.{key_own, key_turned, others_none}
use Rattle.attr_sf.proofs.AroundEntry.{splits}
use Rattle.attr_sf.proofs.EntryParts.{parts_law}

unfoldable pub value_among : List Entry → List ℕ
value_among [] = []
value_among (x ∷ xs) = x.value

unfoldable pub code_among : List Entry → ℕ
code_among [] = 13
code_among (x ∷ xs) = 0

module _ (p : Entry → Bool) where
  pub keep_none : (xs : List Entry) → some_of p xs ≡ false → keep p xs ≡ []
  keep_none [] h = refl
  keep_none (x ∷ xs) h = rw ((neither (p x) _ h).0, keep_none xs (neither (p x) _ h).1)

  some_front : (xs ys : List Entry) → some_of p (xs ++ ys) ≡ false → some_of p xs ≡ false
  some_front [] ys h = refl
  some_front (x ∷ xs) ys h = rw (neither (p x) _ h).0 (some_front xs ys (neither (p x) _ h).1)

module _ (f name : List ℕ) (flags : ℕ) (z : fork_verdict f ≡ 0) where
  pub held_some : held f name flags ≡ some_of (is_key name flags) (stored f)
  unfolding held key_place stored
  held_some = rw (← all_ends f z) (seek_some f name flags (count f) header)

  held_place : held f name flags ≡ true → key_place f name flags < totsize f
  unfolding held
  held_place h = ltb-true _ _ h

  -- the entry that is found, read where it stands
  found_reads : (q : key_place f name flags < totsize f) → entry_at f (key_place f name flags) ≡ (splits f name flags z q).around.mid
  unfolding key_place
  found_reads q = (splits f name flags z q).reads

  -- none before it has the name and the flags
  pub front_none : (q : key_place f name flags < totsize f) → some_of (is_key name flags) (splits f name flags z q).around.front ≡ false
  unfolding stored
  front_none q =
      let a = (splits f name flags z q).around in
      some_front (is_key name flags) a.front a.back (ap (some_of (is_key name flags)) (sym a.rest) ∙ others_none name flags (stored f))

  kept_found : (q : key_place f name flags < totsize f)
      → keep (is_key name flags) (stored f) ≡ (splits f name flags z q).around.mid ∷ keep (is_key name flags) (splits f name flags z q).around.back
  unfolding stored
  kept_found q =
      let a = (splits f name flags z q).around in
      ap (keep (is_key name flags)) a.whole ∙ keep_append (is_key name flags) a.front (a.mid ∷ a.back) ∙ rw (keep_none (is_key name flags) a.front (front_none q), a.key)

  kept_none : held f name flags ≡ false → keep (is_key name flags) (stored f) ≡ []
  kept_none q = keep_none (is_key name flags) (stored f) (sym held_some ∙ q)

-- ---- the answer in the code's order, for any bytes

module _ (e : Edition) (b name : List ℕ) (flags : ℕ) where
  -- where the value lies, if there is one
  there_at : Place
  there_at = value_at (attr_start e b) (attr_fork e b) (key_place (attr_fork e b) name flags)

  pub looked_at : {F : Fork} {v : Result Place ℕ} → Ok F ≡ fork_if (asked_code e b name flags) e b
      → v ≡ found_in F.start (take (length b - F.start) (drop F.start b)) name flags → v ≡ lookup e b name flags
  unfolding lookup lookup_code found_in
  looked_at {F} h q =
      let z = if_passed e b (asked_code e b name flags) h in q ∙ rw (lent_fork e b F.start z.1, z.1, z.0)

  pub looked_refused : (r : Result Place Refusal) (x : Refusal) → IsErrAnd r (λ y. y ≡ x) → Err (number x) ≡ fork_if (asked_code e b name flags) e b
      → numbered r ≡ lookup e b name flags
  unfolding lookup lookup_code there_at
  looked_refused r x i h = passed_on r x there_at i (first_refused x (held_request (attr_fork e b) name flags) (if_refused e b x h))

  -- a value that is found lies in the inode
  pub looked_inside : {p : Place} → Ok p ≡ lookup e b name flags → p.start + p.len ≤ length b
  unfolding lookup lookup_code there_at
  looked_inside {p} h =
      let w = both (asked_code e b name flags) (held_request (attr_fork e b) name flags) (sym (ok_done there_at h)) in
      let t : verdict e b ≡ 0 = tests_passed e b name flags w.0 in
      rw (ok_given (lookup_code e b name flags) there_at h)
      (omega (arith, value_fits (attr_fork e b) name flags (attr_start e b) (fork_passed e b t) w.1, fork_length e b (inode_passed e b t)))

  -- its number
  pub code_is : place_code (lookup e b name flags) ≡ lookup_code e b name flags
  unfolding lookup there_at
  code_is = outcome_answered (lookup_code e b name flags) there_at

  -- and its values
  pub start_is : start_of (lookup e b name flags) ≡ lookup_start e b name flags
  unfolding lookup lookup_start
  start_is = by_cases (eqb (lookup_code e b name flags) 0) (λ q. rw q) (λ q. rw q)

  pub length_is : length_of (lookup e b name flags) ≡ lookup_length e b name flags
  unfolding lookup lookup_length
  length_is = by_cases (eqb (lookup_code e b name flags) 0) (λ q. rw q) (λ q. rw q)

  -- what a lookup promises
  pub promised : (r : Result Place ℕ) → r ≡ lookup e b name flags → LookupPromise e b name flags r
  unfolding lookup there_at
  promised r h = (h, ap outcome h ∙ outcome_answered (lookup_code e b name flags) there_at, ap start_of h ∙ start_is, ap length_of h ∙ length_is)

module _ (e : Edition) (b name : List ℕ) (flags : ℕ) (a : asked_code e b name flags ≡ 0) where
  z : fork_verdict (attr_fork e b) ≡ 0
  z = fork_passed e b (tests_passed e b name flags a)

  pub looked_at_place : held (attr_fork e b) name flags ≡ true
      → lookup e b name flags ≡ Ok (value_at (attr_start e b) (attr_fork e b) (key_place (attr_fork e b) name flags))
  unfolding lookup lookup_code held_request
  looked_at_place q = rw (a, q)

  looked_found : held (attr_fork e b) name flags ≡ true
      → part_of b (lookup e b name flags) ≡ (entry_at (attr_fork e b) (key_place (attr_fork e b) name flags)).value
  looked_found q = rw (looked_at_place q) (parts_law e b (key_place (attr_fork e b) name flags)).1

  looked_none : held (attr_fork e b) name flags ≡ false → lookup e b name flags ≡ Err ABSENT
  unfolding lookup lookup_code held_request
  looked_none q = rw (a, q)

  pub absent_if : some_of (is_key name flags) (stored (attr_fork e b)) ≡ false → lookup e b name flags ≡ Err ABSENT
  absent_if n = looked_none (held_some (attr_fork e b) name flags z ∙ n)

  pub value_by : part_of b (lookup e b name flags) ≡ value_among (keep (is_key name flags) (stored (attr_fork e b)))
  unfolding value_among
  value_by =
      by_cases (held (attr_fork e b) name flags)
      (λ q.
      let p : key_place (attr_fork e b) name flags < totsize (attr_fork e b) = held_place (attr_fork e b) name flags z q in
      looked_found q ∙ ap (λ (x : Entry). x.value) (found_reads (attr_fork e b) name flags z p)
      ∙ ap value_among (sym (kept_found (attr_fork e b) name flags z p)))
      (λ q. rw (looked_none q, kept_none (attr_fork e b) name flags z q))

  pub code_by : place_code (lookup e b name flags) ≡ code_among (keep (is_key name flags) (stored (attr_fork e b)))
  unfolding code_among lookup_code held_request
  code_by =
      code_is e b name flags
      ∙ by_cases (held (attr_fork e b) name flags)
      (λ q. rw (a, q) (ap code_among (sym (kept_found (attr_fork e b) name flags z (held_place (attr_fork e b) name flags z q)))))
      (λ q. rw (a, q, kept_none (attr_fork e b) name flags z q))

-- ---- each stored entry is found

-- of two splits around an element that passes a test and that none before it passes, the fronts are the same
same_front : (p : Entry → Bool) (xs ys : List Entry) (x y : Entry) (us vs : List Entry) → some_of p xs ≡ false → some_of p ys ≡ false
    → p x ≡ true → p y ≡ true → xs ++ (x ∷ us) ≡ ys ++ (y ∷ vs) → xs ≡ ys
same_front p [] [] x y us vs m n h k q = refl
same_front p [] (z ∷ ys) x y us vs m n h k q =
    let e : x ≡ z = cc in absurd (clash (rw e at h) (neither (p z) _ n).0)
same_front p (z ∷ xs) [] x y us vs m n h k q =
    let e : y ≡ z = cc in absurd (clash (rw e at k) (neither (p z) _ m).0)
same_front p (z ∷ xs) (w ∷ ys) x y us vs m n h k q =
    let e : z ≡ w = cc in
    let t : xs ++ (x ∷ us) ≡ ys ++ (y ∷ vs) = cc in
    let r : xs ≡ ys = same_front p xs ys x y us vs (neither (p z) _ m).1 (neither (p w) _ n).1 h k t in cc

-- where no two are the same, none before an entry has its name and flags
front_apart : (xs : List Entry) (x : Entry) (ys : List Entry) → distinct (xs ++ (x ∷ ys)) ≡ true → some_of (is_key x.name x.flags) xs ≡ false
unfolding distinct
front_apart [] x ys d = refl
front_apart (z ∷ xs) x ys d =
    let n : some_of (is_key z.name z.flags) (xs ++ (x ∷ ys)) ≡ false = not-true _ (and_left _ (distinct (xs ++ (x ∷ ys))) d) in
    let k : is_key z.name z.flags x ≡ false = (neither (is_key z.name z.flags x) _ (sym (some_mid (is_key z.name z.flags) xs x ys) ∙ n)).0 in
    rw (key_turned z.name z.flags z.value x k)
    (front_apart xs x ys (and_right (not (some_of (is_key z.name z.flags) (xs ++ (x ∷ ys)))) _ d))

module _ (e : Edition) (b : List ℕ) (front : List Entry) (x : Entry) (back : List Entry) (t : verdict e b ≡ 0)
    (w : stored (attr_fork e b) ≡ front ++ (x ∷ back)) where
  f : List ℕ
  f = attr_fork e b

  own : Entry → Bool
  own = is_key x.name x.flags

  is_own : own x ≡ true
  unfolding own
  is_own = key_own x.flags x.name x.value

  fork_ok : fork_verdict f ≡ 0
  unfolding f
  fork_ok = fork_passed e b t

  may : asked_code e b x.name x.flags ≡ 0
  unfolding f
  may =
      still_asked e b x.name x.flags t
      (every_at name_legal_of front x back (rw w at (all_named f fork_ok)), every_at flags_legal_of front x back (rw w at (all_flagged f fork_ok)))

  none_before : some_of own front ≡ false
  unfolding own f
  none_before = front_apart front x back (rw w at (all_once f fork_ok))

  stands : held f x.name x.flags ≡ true
  unfolding own f
  stands = held_some f x.name x.flags fork_ok ∙ ap (some_of own) w ∙ some_at own front x back is_own

  inside : key_place f x.name x.flags < totsize f
  inside = held_place f x.name x.flags fork_ok stands

  at_own : key_place f x.name x.flags ≡ header + length (run front)
  unfolding own f key_place stored
  at_own =
      let s = splits f x.name x.flags fork_ok inside in
      let q : s.around.front ≡ front =
      same_front own s.around.front front s.around.mid x s.around.back back
      (front_none f x.name x.flags fork_ok inside) none_before s.around.key is_own (sym s.around.whole ∙ w) in
      s.starts ∙ ap (λ (l : List Entry). header + length (run l)) q

  kept_own : keep own (stored f) ≡ x ∷ keep own back
  unfolding own f
  kept_own = ap (keep own) w ∙ keep_append own front (x ∷ back) ∙ rw (keep_none own front none_before, is_own)

  found_own : Found e b front x
  unfolding own f value_among code_among
  found_own =
      record {
        there = code_by e b x.name x.flags may ∙ ap code_among kept_own;
        value = value_by e b x.name x.flags may ∙ ap value_among kept_own;
        place = looked_at_place e b x.name x.flags may stands ∙ ap (λ (n : ℕ). Ok (value_at (attr_start e b) f n)) at_own;
      }

pub found_law : (e : Edition) → FoundLaw e
found_law e b front x back t w = found_own e b front x back t w

-- ---- absent exactly when none has the name and the flags

pub absent_law : (e : Edition) → AbsentLaw e
unfolding lookup_code held_request asked_code
absent_law e b name flags t k = code_is e b name flags ∙ rw (t, k, held_some (attr_fork e b) name flags (fork_passed e b t))
