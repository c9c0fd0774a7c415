-- The short form follows the book: one call is right, and so is every list of them.
-- Assumes nothing.
use Prim.Native.Nat.{ℕ, ◌+◌}
use native.Mathlib.Omega.{arith}
use mathlib.Core.Bool.{Bool, true, false, not, cond, ◌&&◌, ◌||◌}
use mathlib.Core.Path.{◌≡◌, refl, sym, ◌∙◌, ap, ap₂, subst}
use mathlib.Core.List.{List, [], ◌∷◌, map}
use lib.Dec.{eqb}
use lib.ListN.{length}
use borrow.Author.Tests.{eqb-true, not-true}
use Rattle.refusal.specs.Refusal.{ASKED, FIXED, ABSENT, EXISTS, NOROOM}
use Rattle.be.specs.Codes.{◌unless◌then◌}
use Rattle.be.specs.Lists.{every, some_of, tally, same, without_first}
use Rattle.be.specs.Bytes.{bytes}
use Rattle.be.proofs.Bools.{and_both, and_right, or_right, by_cases, clash, every_head, every_tail}
use Rattle.be.proofs.Splits.{some_map, tally_map}
use Rattle.edition.specs.declared.Edition.{Edition}
use Rattle.edition.specs.Edition.{Sane}
use Rattle.name.specs.Name.{legal_name, same_name, fixed_name, dot, dotdot}
use Rattle.name.proofs.Legality.{dot_legal}
use Rattle.name.proofs.Same.{same_eq, not_fixed, same_name_fixed, same_name_as_fixed}
use Rattle.name.proofs.Once.{once, once_map}
use Rattle.dir.specs.declared.Target.{Target}
use Rattle.dir.specs.Target.{legal_target, legal_in, kept_of}
use Rattle.dir.specs.Calls.{Call, look_up, insert, remove, found, done_or}
use Rattle.dir.specs.Book.{Held, held, Book, named, holds as book_holds, target_held, own_held, book_reply, entered, is_done, same_held, SameBook}
use Rattle.dir.specs.Along.{call_bytes}
use Rattle.dir.proofs.FileTypes.{no_own}
use Rattle.dir.proofs.Books.{once_held, holds_same, target_same, target_none, without_same}
use Rattle.dir.proofs.EveryList.{along}
use Rattle.dir.proofs.Replies.{insert_is, remove_is, refused_not_done, done_is, refused_is, look_up_keeps}
use Rattle.dir_sf.specs.Entry.{SfEntry}
use Rattle.dir_sf.specs.Fork.{parent, entries, holds, name_ok, names_ok, once_ok}
use Rattle.dir_sf.specs.Change.{entry_in, target_in, parent_entry, entry_for, placed, removed, insert_request, remove_request}
use Rattle.dir_sf.specs.Inode.{used, verdict, lookup, looked, insert_code, insert_bytes, remove_code, remove_bytes}
use Rattle.dir_sf.proofs.Tested.{used_passes, names_known, once_known}
use Rattle.dir_sf_edit.specs.Calls.{reply, after, book_of, room_for}
use Rattle.dir_sf_edit.specs.Follows.{sf_book_reply, CallRight, book_next, FollowsBook}
use Rattle.dir_sf_edit.proofs.Removes.{removes}
use Rattle.dir_sf_edit.proofs.Inserts.{tally_placed}
use Rattle.dir_sf_edit.proofs.Changes.{remove_answers}
use Rattle.dir_sf_edit.proofs.Kept.{Left, newest, insert_left, insert_leaves, remove_left, remove_leaves}

-- ---- the entries as a book holds them

abbrev as_held : SfEntry → Held
as_held x = held x.name x.target

held_target : (e : Edition) (n : List ℕ) (xs : List SfEntry) → target_held e n (map as_held xs) ≡ target_in e n xs
unfolding target_held entry_in
held_target e n [] = refl
held_target e n (x ∷ xs) =
    by_cases (same_name e n x.name) (λ q. rw (q, target_in) refl) (λ q. rw (q, target_in) (held_target e n xs))

held_without : (e : Edition) (n : List ℕ) (xs : List SfEntry) → without_first (named e n) (map as_held xs) ≡ map as_held (removed e n xs)
unfolding removed
held_without e n [] = refl
held_without e n (x ∷ xs) =
    by_cases (same_name e n x.name) (λ q. rw q refl) (λ q. rw q (ap (λ (l : Book). as_held x ∷ l) (held_without e n xs)))

names_once : (e : Edition) (xs : List SfEntry) → once_ok e xs ≡ once e (λ x. x.name) xs
unfolding once_ok holds
names_once e [] = refl
names_once e (x ∷ xs) = ap (λ (t : Bool). not (some_of (λ y. same_name e x.name y.name) xs) && t) (names_once e xs)

-- no entry bears "." or ".."
no_fixed : (e : Edition) (d : List ℕ) (xs : List SfEntry) → fixed_name d ≡ true → every (name_ok e) xs ≡ true → holds e d xs ≡ false
unfolding holds
no_fixed e d [] f h = refl
no_fixed e d (x ∷ xs) f h =
    let g : fixed_name x.name ≡ false = not-true _ (and_right (legal_name e x.name) _ (every_head (name_ok e) x xs h)) in
    by_cases (same_name e d x.name)
    (λ q. absurd (clash (sym (same_name_fixed e d x.name q) ∙ f) g))
    (λ q. rw q (no_fixed e d xs f (every_tail (name_ok e) x xs h)))

dot_fixed : fixed_name dot ≡ true
unfolding fixed_name
dot_fixed = refl

dotdot_fixed : fixed_name dotdot ≡ true
unfolding fixed_name
dotdot_fixed = refl

-- ---- a directory and its book

module _ (e : Edition) (b n : List ℕ) where
  held_in : book_holds e n (book_of e b) ≡ (same n dotdot || holds e n (entries e (used e b)))
  unfolding book_of holds
  held_in = ap₂ (λ (s t : Bool). s || t) (same_name_as_fixed e n dotdot dotdot_fixed) (some_map (named e n) as_held (entries e (used e b)))

  target_of_book : target_held e n (book_of e b) ≡ (entry_for e n (parent (used e b)) (entries e (used e b))).target
  unfolding book_of target_held entry_for
  target_of_book =
      by_cases (same n dotdot)
      (λ q. rw (same_name_as_fixed e n dotdot dotdot_fixed ∙ q, q) refl)
      (λ q. rw (same_name_as_fixed e n dotdot dotdot_fixed ∙ q, q) (held_target e n (entries e (used e b))))

module _ (e : Edition) (sane : Sane e) (told : ℕ) (b : List ℕ) (v : verdict e told b ≡ 0) where
  book_once : once_held e (book_of e b) ≡ true
  unfolding book_of names_ok holds
  book_once =
      let xs : List SfEntry = entries e (used e b) in
      let u = used_passes e sane told b v in
      and_both _ _ (ap not (some_map (named e dotdot) as_held xs ∙ no_fixed e dotdot xs dotdot_fixed (names_known e told (used e b) u)))
      (once_map e (λ h. h.name) as_held xs ∙ sym (names_once e xs) ∙ once_known e told (used e b) u)

  module _ (k : Book) (m : SameBook (book_of e b) k) where
    -- ---- the answers

    held_as : (n : List ℕ) → (same n dotdot || holds e n (entries e (used e b))) ≡ book_holds e n k
    held_as n = sym (held_in e b n) ∙ holds_same e n (book_of e b) k m

    free_as : (n : List ℕ) → fixed_name n ≡ false → holds e n (entries e (used e b)) ≡ book_holds e n k
    free_as n f = sym (rw (not_fixed n f).1 refl) ∙ held_as n

    looked_as : (n : List ℕ) → (same n dotdot || holds e n (entries e (used e b))) ≡ true
        → (entry_for e n (parent (used e b)) (entries e (used e b))).target ≡ target_held e n k
    looked_as n q = sym (target_of_book e b n) ∙ sym (target_same e n (book_of e b) k m book_once (held_in e b n ∙ q))

    look_answers : (n : List ℕ) (room : Bool) → reply e told b (look_up n) ≡ sf_book_reply e k room (look_up n)
    unfolding reply lookup looked sf_book_reply book_reply
    look_answers n room =
        by_cases (same n dot)
        (λ d. rw (v, ap (legal_name e) (same_eq n dot d) ∙ dot_legal e, d) refl)
        (λ d. by_cases (legal_name e n)
        (λ l. by_cases (same n dotdot || holds e n (entries e (used e b)))
        (λ q. rw (v, d, l, q, sym (held_as n) ∙ q) (ap found (looked_as n q)))
        (λ q. rw (v, d, l, q, sym (held_as n) ∙ q) refl))
        (λ l. rw (v, d, l) refl))

    insert_code_is : (n : List ℕ) (t : Target) → insert_code e told b n t
        ≡ (ASKED unless legal_name e n && legal_target e t then FIXED unless not (fixed_name n) then EXISTS unless not (holds e n (entries e (used e b)))
        then NOROOM unless room_for e told b (insert n t) then 0)
    unfolding insert_code insert_request room_for
    insert_code_is n t = rw v refl

    -- no "." is held, so the book keeps no legal number out
    legal_as : (t : Target) → legal_target e t ≡ legal_in e (own_held e k) t
    unfolding names_ok
    legal_as t =
        let none : book_holds e dot k ≡ false =
        sym (held_as dot) ∙ no_fixed e dot (entries e (used e b)) dot_fixed (names_known e told (used e b) (used_passes e sane told b v)) in
        sym (ap (λ (s : Target). legal_in e s.inode t) (target_none e dot k none) ∙ no_own e t)

    insert_answers : (n : List ℕ) (t : Target) → reply e told b (insert n t) ≡ book_reply e k (room_for e told b (insert n t)) (insert n t)
    unfolding reply
    insert_answers n t = ap done_or (insert_code_is n t) ∙ insert_is e k n (holds e n (entries e (used e b))) (free_as n) t (legal_target e t) (room_for e told b (insert n t)) (legal_as t)

    remove_code_is : (n : List ℕ) → remove_code e told b n
        ≡ (ASKED unless legal_name e n then FIXED unless not (fixed_name n) then ABSENT unless holds e n (entries e (used e b)) then 0)
    unfolding remove_code remove_request
    remove_code_is n = rw v refl

    remove_replies : (n : List ℕ) (room : Bool) → reply e told b (remove n) ≡ book_reply e k room (remove n)
    unfolding reply
    remove_replies n room = ap done_or (remove_code_is n) ∙ remove_is e k n (holds e n (entries e (used e b))) (free_as n) room

-- ---- what is left holds what the book holds

module _ (e : Edition) (sane : Sane e) (told : ℕ) (b n : List ℕ) (by : bytes b ≡ true) (k : Book) (m : SameBook (book_of e b) k) where
  insert_listed : (t : Target) → insert_code e told b n t ≡ 0 → SameBook (book_of e (insert_bytes e told b n t)) (held n (kept_of e t) ∷ k)
  unfolding SameBook book_of
  insert_listed t z = λ h.
      let xs : List SfEntry = entries e (used e b) in
      let y : SfEntry = newest e sane told b n t by z in
      let s : tally (same_held h) (map as_held (placed y xs)) ≡ cond (same_held h (held n (kept_of e t))) 1 0 + tally (same_held h) (map as_held xs) =
      tally_map (same_held h) as_held (placed y xs) ∙ tally_placed (λ x. same_held h (as_held x)) y xs
      ∙ ap (λ (i : ℕ). cond (same_held h (held n (kept_of e t))) 1 0 + i) (sym (tally_map (same_held h) as_held xs)) in
      rw ((insert_left e sane told b n t by z).same_parent, (insert_left e sane told b n t by z).read, s) (omega (arith, m h))

  module _ (v : verdict e told b ≡ 0) (z : remove_code e told b n ≡ 0) where
    gone : (legal_name e n ≡ true) × (fixed_name n ≡ false) × (holds e n (entries e (used e b)) ≡ true)
    gone = removes e n (entries e (used e b)) (remove_answers e sane told b n z)

    left_is : book_of e (remove_bytes e told b n) ≡ without_first (named e n) (book_of e b)
    unfolding book_of
    left_is =
        rw (same_name_as_fixed e n dotdot dotdot_fixed ∙ (not_fixed n gone.1).1)
        (ap₂ (λ (p : ℕ) (xs : List SfEntry). map as_held (parent_entry e p ∷ xs)) (remove_left e sane told b n by z).same_parent (remove_left e sane told b n by z).read
        ∙ ap (λ (l : Book). as_held (parent_entry e (parent (used e b))) ∷ l) (sym (held_without e n (entries e (used e b)))))

    remove_listed : SameBook (book_of e (remove_bytes e told b n)) (without_first (named e n) k)
    remove_listed =
        subst (λ (j : Book). SameBook j (without_first (named e n) k)) (sym left_is)
        (without_same e n (book_of e b) k m (book_once e sane told b v) (held_in e b n ∙ rw gone.2 (or_right (same n dotdot) true refl)))

-- ---- one call

module _ (e : Edition) (sane : Sane e) (told : ℕ) (b : List ℕ) (by : bytes b ≡ true) (v : verdict e told b ≡ 0) (k : Book) (m : SameBook (book_of e b) k) where
  unchanged : (c : Call) → reply e told b c ≡ sf_book_reply e k (room_for e told b c) c → after e told b c ≡ b → book_next e told k b c ≡ k → CallRight e told k b c
  unchanged c an st bk = record { answers = an; accepted = rw st v; lengths = ap length st; listed = rw (st, bk) m }

  look_right : (n : List ℕ) → CallRight e told k b (look_up n)
  unfolding after
  look_right n = unchanged (look_up n) (look_answers e sane told b v k m n (room_for e told b (look_up n))) refl (look_up_keeps e k (room_for e told b (look_up n)) n)

  -- a change by its number: done, or refused and nothing changed
  change_right : (c : Call) (code : ℕ) (ys : List SfEntry) → reply e told b c ≡ done_or code → sf_book_reply e k (room_for e told b c) c ≡ book_reply e k (room_for e told b c) c
      → reply e told b c ≡ book_reply e k (room_for e told b c) c → (eqb code 0 ≡ false → after e told b c ≡ b)
      → (code ≡ 0 → Left e told b ys (after e told b c)) → (code ≡ 0 → SameBook (book_of e (after e told b c)) (entered e k c))
      → CallRight e told k b c
  change_right c code ys re sf an same left lists =
      let room : Bool = room_for e told b c in
      by_cases (eqb code 0)
      (λ z. let q : code ≡ 0 = eqb-true code 0 z in
      let bk : book_next e told k b c ≡ entered e k c = done_is e k room c (sym an ∙ re ∙ rw z refl) in
      record { answers = an ∙ sym sf; accepted = (left q).accepted; lengths = (left q).same_length; listed = subst (λ (j : Book). SameBook (book_of e (after e told b c)) j) (sym bk) (lists q) })
      (λ z. unchanged c (an ∙ sym sf) (same z) (refused_is e k room c (ap is_done (sym an ∙ re) ∙ refused_not_done code z)))

  insert_right : (n : List ℕ) (t : Target) → CallRight e told k b (insert n t)
  unfolding after reply sf_book_reply insert_bytes
  insert_right n t =
      change_right (insert n t) (insert_code e told b n t) _ refl refl (insert_answers e sane told b v k m n t) (λ z. rw z refl)
      (insert_left e sane told b n t by) (insert_listed e sane told b n by k m t)

  remove_right : (n : List ℕ) → CallRight e told k b (remove n)
  unfolding after reply sf_book_reply remove_bytes
  remove_right n =
      change_right (remove n) (remove_code e told b n) _ refl refl (remove_replies e sane told b v k m n (room_for e told b (remove n))) (λ z. rw z refl)
      (remove_left e sane told b n by) (remove_listed e sane told b n by k m v)

  -- bytes stay bytes
  stays_bytes : (c : Call) → call_bytes c ≡ true → bytes (after e told b c) ≡ true
  unfolding after insert_bytes remove_bytes
  stays_bytes (look_up n) q = by
  stays_bytes (insert n t) q =
      by_cases (eqb (insert_code e told b n t) 0) (λ z. insert_leaves e sane told b n t by (eqb-true (insert_code e told b n t) 0 z) q) (λ z. rw z by)
  stays_bytes (remove n) q =
      by_cases (eqb (remove_code e told b n) 0) (λ z. remove_leaves e sane told b n by (eqb-true (remove_code e told b n) 0 z)) (λ z. rw z by)

-- ---- every list of calls

-- an accepted directory whose names and numbers are the book's
record Kept (e : Edition) (told : ℕ) (k : Book) (b : List ℕ) : Type 0 where
  are_bytes : bytes b ≡ true
  ok : verdict e told b ≡ 0
  agrees : SameBook (book_of e b) k

each_call : (e : Edition) → Sane e → (told : ℕ) (k : Book) (b : List ℕ) (c : Call) → Kept e told k b → call_bytes c ≡ true
    → CallRight e told k b c × Kept e told (book_next e told k b c) (after e told b c)
each_call e sane told k b c s q =
    let r : CallRight e told k b c = right c in
    (r, record { are_bytes = stays_bytes e sane told b s.are_bytes s.ok k s.agrees c q; ok = r.accepted; agrees = r.listed })
  where
    right : (c : Call) → CallRight e told k b c
    right (look_up n) = look_right e sane told b s.are_bytes s.ok k s.agrees n
    right (insert n t) = insert_right e sane told b s.are_bytes s.ok k s.agrees n t
    right (remove n) = remove_right e sane told b s.are_bytes s.ok k s.agrees n

pub follows_book : (e : Edition) → Sane e → FollowsBook e
unfolding FollowsBook SameBook
follows_book e sane told b h v cs q =
    along (CallRight e told) (book_next e told) (after e told) (Kept e told) (each_call e sane told) (book_of e b) b (record { are_bytes = h; ok = v; agrees = λ x. refl }) cs q
