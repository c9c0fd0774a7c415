-- A word as lanes of k bits, one for each element of a list: what is done to each lane of two words is done to the words, as long as
-- no lane passes its k bits.
-- Assumes nothing.
use Prim.Native.Nat.{ℕ, ◌+◌, ◌*◌, ◌/◌, ◌%◌, ◌^◌, ◌<◌}
use mathlib.Core.Path.{◌≡◌, refl, sym, ap, ap₂, ◌∙◌}
use mathlib.Core.Bool.{Bool, ◌&&◌}
use mathlib.Core.List.{List, [], ◌∷◌}
use native.Mathlib.Nat.{add-mul, mul_assoc, mul_comm, zero-mul}
use native.Mathlib.Omega.{arith}
use lib.Dec.{eqb}
use lib.Bits.{bit_and, bit_or, bit_xor, and_block, or_block, xor_block}
use lib.Pow.{low, high}
use borrow.Author.Tests.{eqb-true, eqb-false, eq-eqb, ne_eqb}
use Rattle.be.specs.Lists.{every}
use Rattle.be.specs.Words.{le}
use Rattle.be.proofs.Bools.{by_cases}
use Rattle.be.proofs.Words.{Below, none, more}

-- the word whose lanes are f of each element
unfoldable pub lanes : ℕ → (ℕ → ℕ) → List ℕ → ℕ
lanes k f [] = 0
lanes k f (q ∷ qs) = lanes k f qs * 2 ^ k + f q

-- f of what fits a lane fits it
abbrev pub On : ℕ → (ℕ → ℕ) → Type 0
On k f = (q : ℕ) → q < 2 ^ k → f q < 2 ^ k

-- an operation that works on the low bits and on the others apart
module _ (op : ℕ → ℕ → ℕ) (nothing : op 0 0 ≡ 0)
    (block : (k a b r s : ℕ) → r < 2 ^ k → s < 2 ^ k → op (a * 2 ^ k + r) (b * 2 ^ k + s) ≡ op a b * 2 ^ k + op r s) where
  lane_op : (k : ℕ) (f g : ℕ → ℕ) → On k f → On k g → {qs : List ℕ} → Below k qs
      → op (lanes k f qs) (lanes k g qs) ≡ lanes k (λ q. op (f q) (g q)) qs
  unfolding lanes
  lane_op k f g p q none = nothing
  lane_op k f g p q (more {x} {xs} h r) =
      block k (lanes k f xs) (lanes k g xs) (f x) (g x) (p x h) (q x h)
      ∙ ap (λ (n : ℕ). n * 2 ^ k + op (f x) (g x)) (lane_op k f g p q r)

module _ (k : ℕ) (f g : ℕ → ℕ) (p : On k f) (q : On k g) {qs : List ℕ} (b : Below k qs) where
  pub lane_and : bit_and (lanes k f qs) (lanes k g qs) ≡ lanes k (λ x. bit_and (f x) (g x)) qs
  lane_and = lane_op bit_and refl and_block k f g p q b

  pub lane_or : bit_or (lanes k f qs) (lanes k g qs) ≡ lanes k (λ x. bit_or (f x) (g x)) qs
  lane_or = lane_op bit_or refl or_block k f g p q b

  pub lane_xor : bit_xor (lanes k f qs) (lanes k g qs) ≡ lanes k (λ x. bit_xor (f x) (g x)) qs
  lane_xor = lane_op bit_xor refl xor_block k f g p q b

pub lane_add : (k : ℕ) (f g : ℕ → ℕ) (qs : List ℕ) → lanes k f qs + lanes k g qs ≡ lanes k (λ q. f q + g q) qs
unfolding lanes
lane_add k f g [] = refl
lane_add k f g (x ∷ xs) = omega (arith, lane_add k f g xs, add-mul (lanes k f xs) (lanes k g xs) (2 ^ k), ap (λ (n : ℕ). n * 2 ^ k) (lane_add k f g xs))

pub lane_shift : (k s : ℕ) (f : ℕ → ℕ) (qs : List ℕ) → lanes k f qs * 2 ^ s ≡ lanes k (λ q. f q * 2 ^ s) qs
unfolding lanes
lane_shift k s f [] = zero-mul (2 ^ s)
lane_shift k s f (q ∷ qs) =
    let e : lanes k f qs * 2 ^ k * 2 ^ s ≡ lanes k f qs * 2 ^ s * 2 ^ k =
    mul_assoc (lanes k f qs) (2 ^ k) (2 ^ s) ∙ ap (λ (n : ℕ). lanes k f qs * n) (mul_comm (2 ^ k) (2 ^ s)) ∙ sym (mul_assoc (lanes k f qs) (2 ^ s) (2 ^ k)) in
    add-mul (lanes k f qs * 2 ^ k) (f q) (2 ^ s) ∙ ap (λ (n : ℕ). n + f q * 2 ^ s) (e ∙ ap (λ (n : ℕ). n * 2 ^ k) (lane_shift k s f qs))

-- a word is its bytes
pub lane_le : (bs : List ℕ) → lanes 8 (λ b. b) bs ≡ le bs
unfolding lanes le
lane_le [] = refl
lane_le (x ∷ xs) = ap (λ (n : ℕ). n * 256 + x) (lane_le xs)

-- ---- two words are equal where each of their lanes is

eqb_block : (k a b x y : ℕ) → x < 2 ^ k → y < 2 ^ k → eqb (a * 2 ^ k + x) (b * 2 ^ k + y) ≡ (eqb x y && eqb a b)
eqb_block k a b x y p q =
    by_cases (eqb x y)
    (λ e.
    by_cases (eqb a b)
    (λ f. rw (e, f) (eq-eqb (a * 2 ^ k + x) (b * 2 ^ k + y) (ap₂ (λ (m n : ℕ). m * 2 ^ k + n) (eqb-true a b f) (eqb-true x y e))))
    (λ f. rw (e, f) (ne_eqb (a * 2 ^ k + x) (b * 2 ^ k + y) (λ g. eqb-false a b f (highs g)))))
    (λ e. rw e (ne_eqb (a * 2 ^ k + x) (b * 2 ^ k + y) (λ g. eqb-false x y e (lows g))))
  where
    highs : a * 2 ^ k + x ≡ b * 2 ^ k + y → a ≡ b
    highs g = sym (high a k p) ∙ ap (λ (n : ℕ). n / 2 ^ k) g ∙ high b k q

    lows : a * 2 ^ k + x ≡ b * 2 ^ k + y → x ≡ y
    lows g = sym (low a k p) ∙ ap (λ (n : ℕ). n % 2 ^ k) g ∙ low b k q

pub lane_eqb : (k : ℕ) (f g : ℕ → ℕ) → On k f → On k g → {qs : List ℕ} → Below k qs
    → eqb (lanes k f qs) (lanes k g qs) ≡ every (λ q. eqb (f q) (g q)) qs
unfolding lanes
lane_eqb k f g p q none = refl
lane_eqb k f g p q (more {x} {xs} h r) =
    eqb_block k (lanes k f xs) (lanes k g xs) (f x) (g x) (p x h) (q x h) ∙ ap (λ (t : Bool). eqb (f x) (g x) && t) (lane_eqb k f g p q r)

pub every_same : (k : ℕ) (s t : ℕ → Bool) → ((q : ℕ) → q < 2 ^ k → s q ≡ t q) → {qs : List ℕ} → Below k qs → every s qs ≡ every t qs
every_same k s t e none = refl
every_same k s t e (more {x} {xs} h r) = ap₂ (λ (m n : Bool). m && n) (e x h) (every_same k s t e r)
