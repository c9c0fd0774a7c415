-- A call's reply and the book's: the tests stand in the same order, and a reply that is done changes the book.
-- Assumes nothing.
use Prim.Native.Nat.{ℕ}
use mathlib.Core.Bool.{Bool, false, not, ◌&&◌}
use mathlib.Core.Path.{◌≡◌, refl, ap}
use mathlib.Core.List.{List}
use lib.Dec.{eqb}
use Rattle.refusal.specs.Refusal.{ASKED, FIXED, ABSENT, EXISTS, NOROOM}
use Rattle.be.specs.Codes.{◌unless◌then◌}
use Rattle.be.proofs.Bools.{by_cases}
use Rattle.edition.specs.declared.Edition.{Edition}
use Rattle.name.specs.Name.{legal_name, fixed_name}
use Rattle.dir.specs.declared.Target.{Target}
use Rattle.dir.specs.Target.{legal_in}
use Rattle.dir.specs.Calls.{Call, look_up, insert, remove, done, done_or}
use Rattle.dir.specs.Book.{Book, holds, own_held, book_reply, book_after, entered, is_done}

module _ (e : Edition) (k : Book) (n : List ℕ) (there : Bool) (same : fixed_name n ≡ false → there ≡ holds e n k) where
  pub insert_is : (t : Target) (legal room : Bool) → legal ≡ legal_in e (own_held e k) t
      → done_or (ASKED unless legal_name e n && legal then FIXED unless not (fixed_name n) then EXISTS unless not there then NOROOM unless room then 0)
      ≡ book_reply e k room (insert n t)
  unfolding book_reply
  insert_is t legal room q =
      let p : (legal_name e n && legal) ≡ (legal_name e n && legal_in e (own_held e k) t) = ap (λ (x : Bool). legal_name e n && x) q in
      by_cases (legal_name e n && legal_in e (own_held e k) t)
      (λ l. by_cases (fixed_name n)
      (λ f. rw (p, l, f) refl)
      (λ f. by_cases (holds e n k)
      (λ h. rw (p, l, f, same f, h) refl)
      (λ h. by_cases room (λ r. rw (p, l, f, same f, h, r) refl) (λ r. rw (p, l, f, same f, h, r) refl))))
      (λ l. rw (p, l) refl)

  pub remove_is : (room : Bool) → done_or (ASKED unless legal_name e n then FIXED unless not (fixed_name n) then ABSENT unless there then 0) ≡ book_reply e k room (remove n)
  unfolding book_reply
  remove_is room =
      by_cases (legal_name e n)
      (λ l. by_cases (fixed_name n)
      (λ f. rw (l, f) refl)
      (λ f. by_cases (holds e n k) (λ h. rw (l, f, same f, h) refl) (λ h. rw (l, f, same f, h) refl)))
      (λ l. rw l refl)

pub refused_not_done : (k : ℕ) → eqb k 0 ≡ false → is_done (done_or k) ≡ false
refused_not_done k h = rw h refl

module _ (e : Edition) (k : Book) (room : Bool) where
  pub done_is : (c : Call) → book_reply e k room c ≡ done → book_after e k room c ≡ entered e k c
  unfolding book_after
  done_is c q = rw q refl

  pub refused_is : (c : Call) → is_done (book_reply e k room c) ≡ false → book_after e k room c ≡ k
  unfolding book_after
  refused_is c q = rw q refl

  pub look_up_keeps : (n : List ℕ) → book_after e k room (look_up n) ≡ k
  unfolding book_after
  look_up_keeps n = by_cases (is_done (book_reply e k room (look_up n))) (λ q. rw q refl) (λ q. rw q refl)
