-- Numbers, file types and entries, written.
-- Assumes nothing.
use Prim.Native.Nat.{ℕ, ◌+◌, ◌<◌}
use native.Mathlib.Omega.{arith}
use mathlib.Core.Path.{◌≡◌, refl, ◌∙◌, ap}
use mathlib.Core.List.{List, [], ◌∷◌, ◌++◌, append_assoc}
use lib.ListN.{length, length-append}
use Rattle.be.specs.Bytes.{to_be, put}
use Rattle.be.proofs.Numbers.{length_to_be, to_be_1}
use Rattle.be.proofs.Writes.{put_then}
use Rattle.edition.specs.declared.Edition.{Edition}
use Rattle.dir.specs.declared.Target.{Target}
use Rattle.dir_sf.specs.Entry.{entry, width_of, entry_bytes}
use Rattle.dir_sf.proofs.Leaves.{narrow, broad}

-- two writes, as they are made
pub put_put : (b b₁ b₂ : List ℕ) (o p : ℕ) (xs ys : List ℕ) → b₁ ≡ put b o xs → b₂ ≡ put b₁ p ys → b₂ ≡ put (put b o xs) p ys
put_put b b₁ b₂ o p xs ys h k = k ∙ ap (λ (z : List ℕ). put z p ys) h

pub put_narrow : (wides o v : ℕ) (b c : List ℕ) → wides ≡ 0 → c ≡ put b o (to_be 4 v) → c ≡ put b o (to_be (width_of wides) v)
put_narrow wides o v b c h q = q ∙ ap (λ (w : ℕ). put b o (to_be w v)) (narrow wides h)

pub put_broad : (wides o v : ℕ) (b c : List ℕ) → (wides ≡ 0 → ⊥) → c ≡ put b o (to_be 8 v) → c ≡ put b o (to_be (width_of wides) v)
put_broad wides o v b c h q = q ∙ ap (λ (w : ℕ). put b o (to_be w v)) (broad wides h)

-- what stands behind a name, written
pub rest_put : (e : Edition) (b b₁ b₂ : List ℕ) (o : ℕ) (to : Target) (wides : ℕ) → b₁ ≡ put b o (to_be e.ftype to.kind) → b₂ ≡ put b₁ (o + e.ftype) (to_be (width_of wides) to.inode)
    → b₂ ≡ put b o (to_be e.ftype to.kind ++ to_be (width_of wides) to.inode)
rest_put e b b₁ b₂ o to wides h k =
    put_then b b₁ b₂ o (o + e.ftype) (to_be e.ftype to.kind) (to_be (width_of wides) to.inode) h k (rw length_to_be refl)

-- an entry written field by field
pub entry_put : (e : Edition) (b b₁ b₂ b₃ b₄ : List ℕ) (o n tag : ℕ) (to : Target) (wides : ℕ) (name : List ℕ) → length name < 256 → n ≡ length name
    → b₁ ≡ put b o (to_be 1 n) → b₂ ≡ put b₁ (o + 1) (to_be 2 tag) → b₃ ≡ put b₂ (o + 3) name
    → b₄ ≡ put b₃ (o + 3 + n) (to_be e.ftype to.kind ++ to_be (width_of wides) to.inode)
    → b₄ ≡ put b o (entry_bytes e (width_of wides) (entry tag name to))
unfolding entry_bytes
entry_put e b b₁ b₂ b₃ b₄ o n tag to wides name l e₀ e₁ e₂ e₃ e₄ =
    let t : List ℕ = to_be 2 tag in
    let y : List ℕ = to_be e.ftype to.kind ++ to_be (width_of wides) to.inode in
    let lt : length t ≡ 2 = length_to_be 2 tag in
    let h : List ℕ = length name ∷ [] in
    let q₀ : b₁ ≡ put b o h = rw (e₁, e₀, to_be_1 (length name) l) refl in
    let q₁ : b₂ ≡ put b o (h ++ t) = put_then b b₁ b₂ o (o + 1) h t q₀ e₂ refl in
    let q₂ : b₃ ≡ put b o ((h ++ t) ++ name) = put_then b b₂ b₃ o (o + 3) (h ++ t) name q₁ e₃ (omega (arith, length-append h t)) in
    let q₃ : b₄ ≡ put b o (((h ++ t) ++ name) ++ y) =
    put_then b b₃ b₄ o (o + 3 + n) ((h ++ t) ++ name) y q₂ e₄ (omega (arith, length-append (h ++ t) name, length-append h t)) in
    q₃ ∙ ap (put b o) (simp append_assoc)
