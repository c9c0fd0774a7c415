-- The best-gap table, stored number by number at its place; and that it is the table anew, after a pass or without one.
-- Assumes nothing.
use Prim.Native.Nat.{ℕ, ◌+◌, ◌-◌, ◌*◌, ◌≤◌, ◌<◌}
use mathlib.Core.Bool.{Bool, true, false, not, cond, ◌&&◌}
use mathlib.Core.Path.{◌≡◌, refl, sym, ◌∙◌, ap}
use mathlib.Core.List.{List, [], ◌∷◌, ◌++◌, append_assoc, append-nil}
use native.Mathlib.Omega.{arith}
use lib.Dec.{eqb, leb, ltb}
use lib.ListN.{length, take, length-append}
use borrow.Author.Tests.{le-leb, lt-leb}
use Rattle.be.specs.Bytes.{put, to_be, written}
use Rattle.be.proofs.Numbers.{length_to_be}
use Rattle.be.proofs.Writes.{put_next}
use Rattle.edition.specs.declared.Edition.{Edition}
use Rattle.dir_block_rules.specs.Record.{gaps}
use Rattle.dir_block_rules.specs.Block.{records}
use Rattle.dir_block_rules.specs.Verdict.{Pair, pair}
use Rattle.dir_block_rules.specs.Change.{best_of, pair_bytes, with_best}
use Rattle.dir_block_laws.specs.BestSoFar.{ins}
use Rattle.dir_block_laws.specs.JoinedTable.{empty_table, ins_before, ins_behind, ins_besides, joined_table}
use Rattle.dir_block_laws.specs.UsedTable.{longer, shorter, into_other, into_last, used_table}
use Rattle.dir_block_laws.proofs.BestGrows.{take_best}

-- a number of 2 bytes behind the k bytes xs
one_more : (b c d : List ℕ) (o k v : ℕ) (xs : List ℕ) → length xs ≡ k → c ≡ put b o xs → d ≡ put c (o + k) (to_be 2 v) → d ≡ put b o (xs ++ to_be 2 v)
one_more b c d o k v xs l p q = q ∙ ap (λ (m : List ℕ). put m (o + k) (to_be 2 v)) p ∙ put_next b (o + k) o xs (to_be 2 v) (ap (λ (m : ℕ). o + m) l)

pub table_stored : (o o₁ l₁ o₂ l₂ o₃ l₃ : ℕ) (b b₁ b₂ b₃ b₄ b₅ b₆ : List ℕ)
    → b₁ ≡ put b o (to_be 2 o₁) → b₂ ≡ put b₁ (o + 2) (to_be 2 l₁) → b₃ ≡ put b₂ (o + 4) (to_be 2 o₂)
    → b₄ ≡ put b₃ (o + 6) (to_be 2 l₂) → b₅ ≡ put b₄ (o + 8) (to_be 2 o₃) → b₆ ≡ put b₅ (o + 10) (to_be 2 l₃)
    → b₆ ≡ put b o (pair_bytes (pair o₁ l₁ ∷ pair o₂ l₂ ∷ pair o₃ l₃ ∷ []))
unfolding pair_bytes
table_stored o o₁ l₁ o₂ l₂ o₃ l₃ b b₁ b₂ b₃ b₄ b₅ b₆ e₁ e₂ e₃ e₄ e₅ e₆ =
    let x₂ = one_more b b₁ b₂ o 2 l₁ (to_be 2 o₁) (simp length_to_be) e₁ e₂ in
    let x₃ = one_more b b₂ b₃ o 4 o₂ (to_be 2 o₁ ++ to_be 2 l₁) (simp (length-append, length_to_be)) x₂ e₃ in
    let x₄ = one_more b b₃ b₄ o 6 l₂ (to_be 2 o₁ ++ to_be 2 l₁ ++ to_be 2 o₂) (simp (length-append, length_to_be)) x₃ e₄ in
    let x₅ = one_more b b₄ b₅ o 8 o₃ (to_be 2 o₁ ++ to_be 2 l₁ ++ to_be 2 o₂ ++ to_be 2 l₂) (simp (length-append, length_to_be)) x₄ e₅ in
    one_more b b₅ b₆ o 10 l₃ (to_be 2 o₁ ++ to_be 2 l₁ ++ to_be 2 o₂ ++ to_be 2 l₂ ++ to_be 2 o₃) (simp (length-append, length_to_be)) x₅ e₆
    ∙ ap (put b o) (simp (append_assoc, append-nil))

-- the first three of the four longest gaps
pub three_of : (e : Edition) (b : List ℕ) (p q r s : Pair) → best_of 4 (gaps (records e b)) ≡ p ∷ q ∷ r ∷ s ∷ [] → best_of 3 (gaps (records e b)) ≡ p ∷ q ∷ r ∷ []
three_of e b p q r s z = sym (take_best 3 (gaps (records e b))) ∙ ap (take 3) z

-- the two pairs a and c, in offset order, beside the gap from o up to u
pub table_joined : (o u : ℕ) (a c : Pair) (ps t₀ t₁ t₂ t₃ t₄ t₅ : List Pair) → a ∷ c ∷ [] ≡ ps → t₀ ≡ empty_table
    → t₁ ≡ cond (ltb a.from o) (ins a t₀) t₀ → t₂ ≡ cond (ltb c.from o) (ins c t₁) t₁ → t₃ ≡ ins (pair o (u - o)) t₂
    → t₄ ≡ cond (leb u a.from) (ins a t₃) t₃ → t₅ ≡ cond (leb u c.from) (ins c t₄) t₄ → t₅ ≡ joined_table o u ps
unfolding joined_table ins_before ins_behind
table_joined o u a c ps t₀ t₁ t₂ t₃ t₄ t₅ q e₀ e₁ e₂ e₃ e₄ e₅ =
    let m : (x : Bool) (p : Pair) (l k : List Pair) → l ≡ k → cond x (ins p l) l ≡ cond x (ins p k) k =
    λ x p l k w. ap (λ (n : List Pair). cond x (ins p n) n) w in
    let f₁ = e₁ ∙ m (ltb a.from o) a _ _ e₀ in
    let f₂ = e₂ ∙ m (ltb c.from o) c _ _ f₁ in
    let f₃ = e₃ ∙ ap (ins (pair o (u - o))) f₂ in
    let f₄ = e₄ ∙ m (leb u a.from) a _ _ f₃ in
    e₅ ∙ m (leb u c.from) c _ _ f₄ ∙ ap (joined_table o u) q

-- the two pairs a and c, but for one that starts at u
pub besides_two : (u : ℕ) (a c : Pair) (ps t₀ t₁ t₂ : List Pair) → a ∷ c ∷ [] ≡ ps → t₀ ≡ best_of 4 []
    → t₁ ≡ cond (not (eqb a.from u)) (ins a t₀) t₀ → t₂ ≡ cond (not (eqb c.from u)) (ins c t₁) t₁ → t₂ ≡ ins_besides u ps (best_of 4 [])
unfolding ins_besides
besides_two u a c ps t₀ t₁ t₂ q e₀ e₁ e₂ =
    let f₁ : t₁ ≡ cond (eqb a.from u) (best_of 4 []) (ins a (best_of 4 [])) =
    e₁ ∙ unless (eqb a.from u) (ins a t₀) t₀ ∙ ap (λ (l : List Pair). cond (eqb a.from u) l (ins a l)) e₀ in
    e₂ ∙ unless (eqb c.from u) (ins c t₁) t₁ ∙ ap (λ (l : List Pair). cond (eqb c.from u) l (ins c l)) f₁ ∙ ap (λ (l : List Pair). ins_besides u l (best_of 4 [])) q
  where
    unless : (t : Bool) (x y : List Pair) → cond (not t) x y ≡ cond t y x
    unless true x y = refl
    unless false x y = refl

-- what an insert leaves, by each case of the room rule
module _ (n s : ℕ) (t p q r w : Pair) (ts : List Pair) where
  pub used_a : 0 < s → (leb t.long p.long && leb n p.long) ≡ true → ts ≡ into_other n t p (q ∷ r ∷ w ∷ []) → ts ≡ used_table n s t (p ∷ q ∷ r ∷ w ∷ [])
  unfolding used_table
  used_a x y e = e ∙ sym (rw (le-leb 1 s x, y) refl)

  pub used_t : 0 < s → (leb t.long p.long && leb n p.long) ≡ false → n ≤ t.long → ts ≡ into_last n t (p ∷ q ∷ r ∷ w ∷ []) → ts ≡ used_table n s t (p ∷ q ∷ r ∷ w ∷ [])
  unfolding used_table
  used_t x y z e = e ∙ sym (rw (le-leb 1 s x, y, le-leb n t.long z) refl)

  pub used_b : 0 < s → (leb t.long p.long && leb n p.long) ≡ false → t.long < n → ts ≡ into_last n (longer (8 * (s - 1)) t) (p ∷ q ∷ r ∷ w ∷ []) → ts ≡ used_table n s t (p ∷ q ∷ r ∷ w ∷ [])
  unfolding used_table
  used_b x y z e = e ∙ sym (rw (le-leb 1 s x, y, lt-leb n t.long z) refl)

  pub used_c : s ≡ 0 → n ≤ p.long → ts ≡ into_other n (shorter t) p (q ∷ r ∷ w ∷ []) → ts ≡ used_table n s t (p ∷ q ∷ r ∷ w ∷ [])
  unfolding used_table
  used_c x y e = e ∙ sym (rw (lt-leb 1 s (omega arith), le-leb n p.long y) refl)

  pub used_d : s ≡ 0 → p.long < n → ts ≡ into_last n (shorter t) (p ∷ q ∷ r ∷ w ∷ []) → ts ≡ used_table n s t (p ∷ q ∷ r ∷ w ∷ [])
  unfolding used_table
  used_d x y e = e ∙ sym (rw (lt-leb 1 s (omega arith), lt-leb n p.long y) refl)

pub best_joined : (e : Edition) (b d : List ℕ) (ps : List Pair) → best_of 3 (gaps (records e b)) ≡ ps → d ≡ put b e.best (pair_bytes ps) → d ≡ with_best e b
unfolding with_best written
best_joined e b d ps q p = p ∙ ap (λ (l : List Pair). put b e.best (pair_bytes l)) (sym q)
