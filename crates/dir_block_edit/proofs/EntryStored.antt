-- An entry's bytes, stored field by field; and with the gap behind it, as writes.
-- Assumes nothing.
use Prim.Native.Nat.{ℕ, ◌+◌, ◌-◌, ◌≤◌, ◌<◌}
use native.Mathlib.Omega.{arith}
use mathlib.Core.Path.{◌≡◌, refl, ◌∙◌, ap, ap₂}
use mathlib.Core.List.{List, ◌++◌, append_assoc}
use lib.ListN.{length, replicate, length-append, length-replicate}
use Rattle.be.specs.Bytes.{put, to_be, written}
use Rattle.be.proofs.Numbers.{length_to_be, to_be_1}
use Rattle.be.proofs.Writes.{put_next}
use Rattle.edition.specs.declared.Edition.{Edition}
use Rattle.edition.specs.Edition.{entry_size}
use Rattle.edition.proofs.Sizes.{entry_size_least}
use Rattle.dir.specs.declared.Target.{Target}
use Rattle.dir_block_rules.specs.Record.{pad, entry_bytes, gap_writes}
use Rattle.dir_block_rules.specs.Change.{entry_writes}

-- one run of bytes more behind the k bytes xs
behind : (b c d : List ℕ) (o p k : ℕ) (xs ys : List ℕ) → c ≡ put b o xs → length xs ≡ k → o + k ≡ p → d ≡ put c p ys → d ≡ put b o (xs ++ ys)
behind b c d o p k xs ys q l r h = h ∙ ap (λ (m : List ℕ). put m p ys) q ∙ put_next b p o xs ys (ap (λ (m : ℕ). o + m) l ∙ r)

pub pad_stored : (e : Edition) (b c d : List ℕ) (o k n : ℕ) → c ≡ put b o (to_be e.ftype k) → d ≡ put c (o + e.ftype) (replicate n 0) → d ≡ put b o (to_be e.ftype k ++ replicate n 0)
pad_stored e b c d o k n p q = behind b c d o (o + e.ftype) e.ftype (to_be e.ftype k) (replicate n 0) p (length_to_be e.ftype k) refl q

pub entry_stored : (e : Edition) (o : ℕ) (i : Target) (E : ℕ) (n b b₁ b₂ b₃ b₄ b₅ : List ℕ) → length n < 256 → E ≡ entry_size e (length n)
    → b₁ ≡ put b o (to_be 8 i.inode) → b₂ ≡ put b₁ (o + 8) (to_be 1 (length n)) → b₃ ≡ put b₂ (o + 9) n
    → b₄ ≡ put b₃ (o + 9 + length n) (to_be e.ftype i.kind ++ replicate (E - (11 + e.ftype + length n)) 0) → b₅ ≡ put b₄ (o + E - 2) (to_be 2 o)
    → b₅ ≡ put b o (entry_bytes e o i n)
unfolding entry_bytes pad
entry_stored e o i E n b b₁ b₂ b₃ b₄ b₅ small q e₁ e₂ e₃ e₄ e₅ =
    let least : 11 + e.ftype + length n ≤ entry_size e (length n) = entry_size_least e (length n) in
    let I : List ℕ = to_be 8 i.inode in
    let N : List ℕ = to_be 1 (length n) in
    let Z : List ℕ = to_be e.ftype i.kind ++ replicate (E - (11 + e.ftype + length n)) 0 in
    let l₁ : length I ≡ 8 = length_to_be 8 i.inode in
    let l₂ : length (I ++ N) ≡ 9 = length-append I N ∙ ap₂ (λ (x y : ℕ). x + y) l₁ (length_to_be 1 (length n)) in
    let l₃ : length ((I ++ N) ++ n) ≡ 9 + length n = length-append (I ++ N) n ∙ ap (λ (k : ℕ). k + length n) l₂ in
    let z : length Z ≡ E - (11 + length n) = simp (length-append, length_to_be, length-replicate) (omega (arith, q, least)) in
    let l₄ : length (((I ++ N) ++ n) ++ Z) ≡ E - 2 = omega (arith, length-append ((I ++ N) ++ n) Z, l₃, z, q, least) in
    let s₂ = behind b b₁ b₂ o (o + 8) 8 I N e₁ l₁ refl e₂ in
    let s₃ = behind b b₂ b₃ o (o + 9) 9 (I ++ N) n s₂ l₂ refl e₃ in
    let s₄ = behind b b₃ b₄ o (o + 9 + length n) (9 + length n) ((I ++ N) ++ n) Z s₃ l₃ (omega arith) e₄ in
    behind b b₄ b₅ o (o + E - 2) (E - 2) (((I ++ N) ++ n) ++ Z) (to_be 2 o) s₄ l₄ (omega (arith, q, least)) e₅
    ∙ ap (put b o) (rw (to_be_1 (length n) small, q) (simp append_assoc))

pub placed : (e : Edition) (o u : ℕ) (i : Target) (E : ℕ) (n b b₁ b₂ : List ℕ) → E ≡ entry_size e (length n)
    → b₁ ≡ put b o (entry_bytes e o i n) → b₂ ≡ written b₁ (gap_writes (o + E) (u - (o + E))) → b₂ ≡ written b (entry_writes e i n o u)
unfolding written
placed e o u i E n b b₁ b₂ q e₁ e₂ =
    e₂ ∙ ap (λ (l : List ℕ). written l (gap_writes (o + E) (u - (o + E)))) e₁
    ∙ ap (λ (k : ℕ). written (put b o (entry_bytes e o i n)) (gap_writes (o + k) (u - (o + k)))) q
