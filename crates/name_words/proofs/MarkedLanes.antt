-- Marks in every lane: of none, and of two words at once.
-- Assumes nothing.
use Prim.Native.Nat.{ℕ}
use mathlib.Core.Path.{◌≡◌, sym, ap, ap₂, ◌∙◌}
use mathlib.Core.Bool.{Bool, ◌&&◌}
use mathlib.Core.List.{List, ◌++◌}
use lib.Dec.{eqb}
use lib.Bits.{bit_and, and_self, and_comm}
use borrow.Author.Tests.{eqb-true, eqb-false, eq-eqb, ne_eqb}
use Rattle.be.specs.Lists.{every}
use Rattle.be.proofs.Bitwise.{and_assoc}
use Rattle.be.proofs.Bools.{by_cases, every_append}
use Rattle.name_words.specs.Words.{marked}

-- where all bits of t are set in both, they are set in each
first : (t a b : ℕ) → bit_and (bit_and a b) t ≡ t → bit_and a t ≡ t
first t a b e =
    ap (bit_and a) (sym e)
    ∙ sym (and_assoc a (bit_and a b) t)
    ∙ ap (λ (n : ℕ). bit_and n t) (sym (and_assoc a a b) ∙ ap (λ (n : ℕ). bit_and n b) (and_self a))
    ∙ e

second : (t a b : ℕ) → bit_and (bit_and a b) t ≡ t → bit_and b t ≡ t
second t a b e = first t b a (ap (λ (n : ℕ). bit_and n t) (and_comm b a) ∙ e)

all_set : (t a b : ℕ) → eqb (bit_and (bit_and a b) t) t ≡ (eqb (bit_and a t) t && eqb (bit_and b t) t)
all_set t a b =
    by_cases (eqb (bit_and a t) t)
    (λ p.
    by_cases (eqb (bit_and b t) t)
    (λ q. rw (p, q) (eq-eqb _ t (and_assoc a b t ∙ ap (bit_and a) (eqb-true _ t q) ∙ eqb-true _ t p)))
    (λ q. rw (p, q) (ne_eqb _ t (λ e. eqb-false _ t q (second t a b e)))))
    (λ p. rw p (ne_eqb _ t (λ e. eqb-false _ t p (first t a b e))))

pub marked_and : (a b : ℕ) → marked (bit_and a b) ≡ (marked a && marked b)
unfolding marked
marked_and a b = all_set 0x8080808080808080 a b

-- before the first word
pub marked_none : (t : Bool) → t ≡ (marked 0x8080808080808080 && t)
unfolding marked
marked_none t = ap (λ (x : Bool). x && t) (sym (eq-eqb _ 0x8080808080808080 (and_self 0x8080808080808080)))

-- a word more
pub marked_more : (c m : ℕ) (t : Bool) → marked m ≡ t → marked (bit_and c m) ≡ (marked c && t)
marked_more c m t e = marked_and c m ∙ ap (λ (x : Bool). marked c && x) e

-- the marks of two runs of bytes
pub marked_append : (f : ℕ → Bool) (m k : ℕ) (xs ys : List ℕ) → marked m ≡ every f xs → marked k ≡ every f ys → marked (bit_and m k) ≡ every f (xs ++ ys)
marked_append f m k xs ys e g = marked_and m k ∙ ap₂ (λ (x y : Bool). x && y) e g ∙ sym (every_append f xs ys)
