-- One call on an accepted block is right: its answer is the book's, and so is what it leaves.
-- Assumes nothing.
use Prim.Native.Nat.{ℕ, ◌+◌, ◌≤◌, ◌<◌}
use native.Mathlib.Omega.{arith}
use native.Mathlib.Nat.{le_trans}
use mathlib.Core.Bool.{Bool, true, false, not, ◌&&◌}
use mathlib.Core.Path.{◌≡◌, refl, sym, ◌∙◌, ap, ap₂, subst}
use mathlib.Core.List.{List, ◌∷◌}
use lib.Dec.{eqb, leb}
use lib.ListN.{length}
use borrow.Author.Tests.{eqb-true, not-true, le-leb, leb-false}
use Rattle.refusal.specs.Refusal.{ASKED, FIXED, ABSENT, EXISTS, NOROOM}
use Rattle.be.specs.Codes.{◌unless◌then◌}
use Rattle.be.proofs.Codes.{passes}
use Rattle.name.proofs.Legality.{legal_bounds}
use Rattle.edition.proofs.Sizes.{entry_size_mono}
use Rattle.be.specs.Lists.{every, some_of, same, without_first}
use Rattle.be.specs.Bytes.{bytes}
use Rattle.edition.specs.declared.Edition.{Edition}
use Rattle.edition.specs.Edition.{entry_size, Sane}
use Rattle.name.specs.Name.{legal_name, fixed_name, same_name, dot, dotdot}
use Rattle.dir.specs.declared.Target.{Target}
use Rattle.dir.specs.Target.{kept_of, legal_in}
use Rattle.dir_block_rules.specs.Record.{Rec, size, entries, gaps, name}
use Rattle.dir_block_rules.specs.Block.{records, stale_of}
use Rattle.dir_block_rules.specs.Verdict.{Accepted, name_ok, entry_stands, own_of}
use Rattle.dir_block_rules.specs.Lookup.{lookup, lookup_refusal, sought, target_at}
use Rattle.dir_block_rules.specs.Room.{some_stale, room_of, has_room}
use Rattle.dir_block_rules.specs.Change.{insert_writes, insert_code, insert_bytes, remove_writes, remove_code, remove_bytes}
use Rattle.dir.specs.Calls.{done_or, Call, look_up, insert, remove, found, done, call_name}
use Rattle.dir_block_rules.specs.Calls.{reply, after, book_of}
use Rattle.dir.specs.Book.{Held, held, Book, named, holds, target_held, own_held, SameBook, book_reply, book_after, is_done}
use Rattle.dir.specs.Along.{call_bytes}
use Rattle.dir_block_rules.specs.Demand.{Reuse, CallRight, book_next}
use Rattle.be.proofs.Bools.{and_left, and_right, by_cases, clash}
use Rattle.be.proofs.Splits.{Split, some_split, some_at, every_at}
use Rattle.name.proofs.Same.{same_eq, same_name_refl}
use Rattle.dir_block_rules.proofs.AcceptedParts.{good_of}
use Rattle.dir_block_rules.proofs.PartsAddUp.{adds_up}
use Rattle.dir.proofs.Books.{holds_same, first_named, FirstNamed}
use Rattle.dir.proofs.Replies.{insert_is, remove_is, refused_not_done, done_is, refused_is, look_up_keeps}
use Rattle.dir_block_rules.proofs.BooksAgree.{holds_entries, first_is, book_inserted, book_removed}
use Rattle.dir_block_rules.proofs.InsertFree.{Asked}
use Rattle.dir_block_rules.proofs.InsertCases.{Inserted, insert_any}
use Rattle.dir_block_rules.proofs.LookupFinds.{Removed, hit_of, spot, spot_name, target_found, removed_of}
use Rattle.dir_block_rules.proofs.OwnHeld.{dot_place, dotdot_place, fixed_there, own_same}
use Rattle.dir_block_rules.proofs.StaysBytes.{bytes_changed, all_insert, all_remove}

pub name_lt : (e : Edition) (n : List ℕ) → legal_name e n ≡ true → length n < 256
name_lt e n h = omega (arith, legal_bounds e n h)

module _ (e : Edition) (sane : Sane e) (b : List ℕ) (h : bytes b ≡ true) (a : Accepted e b) where
  -- what the search finds is what the book holds
  hit_holds : (k : Book) → SameBook (book_of e b) k → (n : List ℕ) → (sought e b n).hit ≡ holds e n k
  hit_holds k m n = hit_of e sane b h a n ∙ sym (holds_entries e n b) ∙ holds_same e n (book_of e b) k m

  -- lookup
  lookup_hit : (k : Book) → SameBook (book_of e b) k → (n : List ℕ) → (sought e b n).hit ≡ true → target_at e b (sought e b n).at ≡ target_held e n k
  lookup_hit k m n q =
      let f : FirstNamed e n k = first_named e n k (sym (hit_holds k m n) ∙ q) in
      target_found e sane b h a n q
      ∙ sym (f.target_is ∙ ap (λ (x : Held). x.target) (first_is e b n k m (good_of e sane b h a).once (spot e sane b h a n q) (spot_name e sane b h a n q) f))

  lookup_reply : (k : Book) → SameBook (book_of e b) k → (n : List ℕ) (r : Bool) → reply e b (look_up n) ≡ book_reply e k r (look_up n)
  unfolding reply lookup lookup_refusal book_reply
  lookup_reply k m n r =
      by_cases (legal_name e n)
      (λ l. by_cases (sought e b n).hit
      (λ q. rw (a, l, q, sym (hit_holds k m n) ∙ q) (ap found (lookup_hit k m n q)))
      (λ q. rw (a, l, q, sym (hit_holds k m n) ∙ q) refl))
      (λ l. rw (a, l) refl)

  pub insert_code_is : (n : List ℕ) (i : Target) → insert_code e b n i
      ≡ (ASKED unless legal_name e n && legal_in e (own_of e b) i then FIXED unless not (fixed_name n) then EXISTS unless not (sought e b n).hit then NOROOM unless has_room e b n then 0)
  unfolding insert_code
  insert_code_is n i = rw a refl

  pub remove_code_is : (n : List ℕ) → remove_code e b n ≡ (ASKED unless legal_name e n then FIXED unless not (fixed_name n) then ABSENT unless (sought e b n).hit then 0)
  unfolding remove_code
  remove_code_is n = rw a refl

  -- what an insert may ask for is the same by the block and by the book
  legal_as : (k : Book) → SameBook (book_of e b) k → (i : Target) → legal_in e (own_of e b) i ≡ legal_in e (own_held e k) i
  legal_as k m i = ap (λ (own : ℕ). legal_in e own i) (sym (own_same e sane b h a k m))

  insert_reply : (k : Book) → SameBook (book_of e b) k → (n : List ℕ) (i : Target) → reply e b (insert n i) ≡ book_reply e k (has_room e b n) (insert n i)
  unfolding reply
  insert_reply k m n i = ap done_or (insert_code_is n i) ∙ insert_is e k n (sought e b n).hit (λ f. hit_holds k m n) i (legal_in e (own_of e b) i) (has_room e b n) (legal_as k m i)

  remove_reply : (k : Book) → SameBook (book_of e b) k → (n : List ℕ) (r : Bool) → reply e b (remove n) ≡ book_reply e k r (remove n)
  unfolding reply
  remove_reply k m n r = ap done_or (remove_code_is n) ∙ remove_is e k n (sought e b n).hit (λ f. hit_holds k m n) r

  -- an insert that is done
  pub insert_facts : (n : List ℕ) (i : Target) → insert_code e b n i ≡ 0
      → (legal_name e n ≡ true) × (legal_in e (own_of e b) i ≡ true) × (fixed_name n ≡ false) × ((sought e b n).hit ≡ false) × (has_room e b n ≡ true)
  insert_facts n i q =
      let p1 : _ = passes (legal_name e n && legal_in e (own_of e b) i) 10 (FIXED unless not (fixed_name n) then EXISTS unless not (sought e b n).hit then NOROOM unless has_room e b n then 0) (sym (insert_code_is n i) ∙ q) in
      let p2 : _ = passes (not (fixed_name n)) 11 (EXISTS unless not (sought e b n).hit then NOROOM unless has_room e b n then 0) p1.1 in
      let p3 : _ = passes (not (sought e b n).hit) 13 (NOROOM unless has_room e b n then 0) p2.1 in
      let p4 : _ = passes (has_room e b n) 14 0 p3.1 in
      (and_left (legal_name e n) _ p1.0, and_right (legal_name e n) _ p1.0, not-true (fixed_name n) p2.0, not-true (sought e b n).hit p3.0, p4.0)

  pub insert_done : (n : List ℕ) (i : Target) → bytes n ≡ true → insert_code e b n i ≡ 0 → Inserted e b n i (insert_bytes e b n i)
  unfolding insert_bytes
  insert_done n i nb q =
      let f : _ = insert_facts n i q in
      let ask : Asked e b n i = record { name_bytes = nb; name_legal = f.0; number_legal = f.1; not_fixed = f.2; absent = sym (hit_of e sane b h a n) ∙ f.3 } in
      rw q (insert_any e sane b h a i n ask f.4)

  pub remove_facts : (n : List ℕ) → remove_code e b n ≡ 0 → (legal_name e n ≡ true) × (fixed_name n ≡ false) × ((sought e b n).hit ≡ true)
  remove_facts n q =
      let p1 : _ = passes (legal_name e n) 10 (FIXED unless not (fixed_name n) then ABSENT unless (sought e b n).hit then 0) (sym (remove_code_is n) ∙ q) in
      let p2 : _ = passes (not (fixed_name n)) 11 (ABSENT unless (sought e b n).hit then 0) p1.1 in
      let p3 : _ = passes (sought e b n).hit 12 0 p2.1 in
      (p1.0, not-true (fixed_name n) p2.0, p3.0)

  pub remove_done : (n : List ℕ) → remove_code e b n ≡ 0 → Removed e b n (remove_bytes e b n)
  unfolding remove_bytes
  remove_done n q = let f : _ = remove_facts n q in rw q (removed_of e sane b h a n f.2 f.1)

  -- bytes stay bytes
  pub stays_bytes : (c : Call) → call_bytes c ≡ true → bytes (after e b c) ≡ true
  unfolding after insert_bytes remove_bytes
  stays_bytes (look_up n) q = h
  stays_bytes (insert n i) q =
      by_cases (eqb (insert_code e b n i) 0)
      (λ z. rw z (bytes_changed e sane b (insert_writes e b n i) h (all_insert e b n i q (name_lt e n (insert_facts n i (eqb-true (insert_code e b n i) 0 z)).0))))
      (λ z. rw z h)
  stays_bytes (remove n) q =
      by_cases (eqb (remove_code e b n) 0) (λ z. rw z (bytes_changed e sane b (remove_writes e b n) h (all_remove e b n))) (λ z. rw z h)

  -- a call that changes nothing
  unchanged : (k : Book) → SameBook (book_of e b) k → (c : Call) → reply e b c ≡ book_reply e k (has_room e b (call_name c)) c → after e b c ≡ b
      → book_after e k (has_room e b (call_name c)) c ≡ k → Reuse e (after e b c) c (reply e b c) → CallRight e k b c
  unchanged k m c an st bk re =
      record { answers = an; accepted = rw st a; lengths = ap length st; listed = rw (st, bk) m; adds_up = rw st (adds_up e sane b h a); reuse = re }

module _ (e : Edition) (sane : Sane e) (b : List ℕ) (h : bytes b ≡ true) (a : Accepted e b) where
  -- "." and ".." are always held
  held_at : (d : List ℕ) (o : ℕ) → entry_stands o (records e b) ≡ true → ((r : Rec) → name_ok e r ≡ true → eqb r.off o ≡ true → same (name r) d ≡ true)
      → every (name_ok e) (entries (records e b)) ≡ true → (m : List ℕ) → same m d ≡ true → some_of (λ r. same_name e m (name r)) (entries (records e b)) ≡ true
  held_at d o at ok ev m q =
      let t : (t : Split (entries (records e b))) × (eqb t.here.off o ≡ true) = some_split (λ r. eqb r.off o) (entries (records e b)) at in
      let r : Rec = t.0.here in
      let nk : name_ok e r ≡ true = every_at (name_ok e) t.0.before r t.0.behind (subst (λ (l : List Rec). every (name_ok e) l ≡ true) t.0.is ev) in
      let nm : name r ≡ d = same_eq (name r) d (ok r nk t.1) in
      ap (some_of (λ r. same_name e m (name r))) t.0.is
      ∙ some_at (λ r. same_name e m (name r)) t.0.before r t.0.behind (subst (λ (l : List ℕ). same_name e m l ≡ true) (same_eq m d q ∙ sym nm) (same_name_refl e m))

  fixed_held : (m : List ℕ) → fixed_name m ≡ true → some_of (λ r. same_name e m (name r)) (entries (records e b)) ≡ true
  unfolding fixed_name
  fixed_held m q =
      let f = fixed_there e sane b h a in
      by_cases (same m dot)
      (λ y. held_at dot e.header f.1 (λ r k z. dot_place e r k ∙ z) f.0 m y)
      (λ y. held_at dotdot (e.header + 16) f.2 (λ r k z. dotdot_place e r k ∙ z) f.0 m (rw y at q))

  -- room by (a) is room
  room_by_a : (m : List ℕ) → 1 ≤ stale_of b → (t : Split (gaps (records e b))) → entry_size e (length m) ≤ size t.here → has_room e b m ≡ true
  unfolding has_room room_of
  room_by_a m s g l =
      let holds : Rec → Bool = λ r. leb (entry_size e (length m)) (size r) in
      let f : some_of holds (gaps (records e b)) ≡ true =
      ap (some_of holds) g.is ∙ some_at holds g.before g.here g.behind (le-leb (entry_size e (length m)) (size g.here) l) in
      let t : some_stale (room_of e b m) ≡ true = by_cases (some_stale (room_of e b m)) (λ q. q) (λ q. absurd (omega (arith, leb-false))) in
      rw (t, f) refl

  -- a legal absent name with a legal number other than the directory's own goes in where (a) finds room
  goes_in : (m : List ℕ) (i : Target) → legal_name e m ≡ true → legal_in e (own_held e (book_of e b)) i ≡ true → holds e m (book_of e b) ≡ false → has_room e b m ≡ true → reply e b (insert m i) ≡ done
  unfolding reply SameBook
  goes_in m i lg ln hd rm =
      let nh : some_of (λ r. same_name e m (name r)) (entries (records e b)) ≡ false = sym (holds_entries e m b) ∙ hd in
      let fx : fixed_name m ≡ false = by_cases (fixed_name m) (λ q. absurd (clash (fixed_held m q) nh)) (λ q. q) in
      ap done_or (insert_code_is e sane b h a m i) ∙ rw (lg, legal_as e sane b h a (book_of e b) (λ x. refl) i ∙ ln, fx, hit_of e sane b h a m ∙ nh, rm) refl

module _ (e : Edition) (sane : Sane e) (b : List ℕ) (h : bytes b ≡ true) (a : Accepted e b) (k : Book) (m : SameBook (book_of e b) k) where
  look_right : (n : List ℕ) → CallRight e k b (look_up n)
  unfolding after Reuse
  look_right n = unchanged e sane b h a k m (look_up n) (lookup_reply e sane b h a k m n (has_room e b n)) refl (look_up_keeps e k (has_room e b n) n) tt

  insert_right : (n : List ℕ) (i : Target) → bytes n ≡ true → CallRight e k b (insert n i)
  unfolding after reply Reuse insert_bytes
  insert_right n i nb =
      let an : reply e b (insert n i) ≡ book_reply e k (has_room e b n) (insert n i) = insert_reply e sane b h a k m n i in
      by_cases (eqb (insert_code e b n i) 0)
      (λ z. let q : insert_code e b n i ≡ 0 = eqb-true (insert_code e b n i) 0 z in
      let w : Inserted e b n i (insert_bytes e b n i) = insert_done e sane b h a n i nb q in
      let bk : book_after e k (has_room e b n) (insert n i) ≡ held n (kept_of e i) ∷ k = done_is e k (has_room e b n) (insert n i) (sym an ∙ rw z refl) in
      record {
        answers = an;
        accepted = w.accepted;
        lengths = w.long;
        listed = subst (λ (j : Book). SameBook (book_of e (insert_bytes e b n i)) j) (ap₂ (λ (x : List ℕ) (y : Target). held x y ∷ k) w.named w.aimed ∙ sym bk)
            (book_inserted e b (insert_bytes e b n i) k m w.before w.new w.behind w.old_entries w.new_entries_are);
        adds_up = adds_up e sane (insert_bytes e b n i) (stays_bytes e sane b h a (insert n i) nb) w.accepted;
        reuse = tt;
      })
      (λ z. unchanged e sane b h a k m (insert n i) an (rw z refl) (refused_is e k (has_room e b n) (insert n i) (ap is_done (sym an) ∙ refused_not_done (insert_code e b n i) z)) tt)

  remove_right : (n : List ℕ) → bytes n ≡ true → CallRight e k b (remove n)
  unfolding after reply Reuse remove_bytes
  remove_right n nb =
      let an : reply e b (remove n) ≡ book_reply e k (has_room e b n) (remove n) = remove_reply e sane b h a k m n (has_room e b n) in
      by_cases (eqb (remove_code e b n) 0)
      (λ z. let q : remove_code e b n ≡ 0 = eqb-true (remove_code e b n) 0 z in
      let w : Removed e b n (remove_bytes e b n) = remove_done e sane b h a n q in
      let c : List ℕ = remove_bytes e b n in
      let cb : bytes c ≡ true = stays_bytes e sane b h a (remove n) nb in
      let bk : book_after e k (has_room e b n) (remove n) ≡ without_first (named e n) k = done_is e k (has_room e b n) (remove n) (sym an ∙ rw z refl) in
      let f : FirstNamed e n k = first_named e n k (sym (hit_holds e sane b h a k m n) ∙ (remove_facts e sane b h a n q).2) in
      record {
        answers = an;
        accepted = w.accepted;
        lengths = w.long;
        listed = subst (λ (j : Book). SameBook (book_of e c) j) (sym bk)
            (book_removed e b c k m w.before w.gone w.behind n w.old_entries w.new_entries_are (good_of e sane b h a).once w.of_name f);
        adds_up = adds_up e sane c cb w.accepted;
        reuse = λ dn x i xb lg ln hd len.
            goes_in e sane c cb w.accepted x i lg ln hd
            (room_by_a e sane c cb w.accepted x (omega (arith, w.one_more))
            w.gap_split (le_trans (entry_size_mono e (length x) (length n) len) w.gap_long));
      })
      (λ z. unchanged e sane b h a k m (remove n) an (rw z refl) (refused_is e k (has_room e b n) (remove n) (ap is_done (sym an) ∙ refused_not_done (remove_code e b n) z))
      (λ dn x i xb lg ln hd len. absurd (clash (ap is_done dn) (refused_not_done (remove_code e b n) z))))

-- an accepted block whose names and numbers are the book's
pub record Kept (e : Edition) (k : Book) (b : List ℕ) : Type 0 where
  pub are_bytes : bytes b ≡ true
  pub ok : Accepted e b
  pub same : SameBook (book_of e b) k

-- every call on it is right, and leaves such a block
pub each_call : (e : Edition) → Sane e → (k : Book) (b : List ℕ) (c : Call) → Kept e k b → call_bytes c ≡ true → CallRight e k b c × Kept e (book_next e k b c) (after e b c)
each_call e sane k b c s q =
    let r : CallRight e k b c = right c q in
    (r, record { are_bytes = stays_bytes e sane b s.are_bytes s.ok c q; ok = r.accepted; same = r.listed })
  where
    right : (c : Call) → call_bytes c ≡ true → CallRight e k b c
    right (look_up n) q = look_right e sane b s.are_bytes s.ok k s.same n
    right (insert n i) q = insert_right e sane b s.are_bytes s.ok k s.same n i q
    right (remove n) q = remove_right e sane b s.are_bytes s.ok k s.same n q
