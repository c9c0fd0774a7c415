-- A name of up to 255 bytes: what its bytes and their hash show of it.
-- Assumes nothing.
use Prim.Native.Nat.{ℕ, ◌+◌, ◌-◌, ◌^◌, ◌≤◌, ◌<◌}
use mathlib.Core.Path.{◌≡◌, sym, ap, ◌∙◌}
use mathlib.Core.Bool.{Bool, false}
use mathlib.Core.List.{List, []}
use native.Mathlib.Omega.{arith}
use lib.ListN.{length}
use lib.Seq.{take_all}
use Rattle.be.specs.Bytes.{part}
use Rattle.be.specs.Lists.{every}
use Rattle.be.proofs.Parts.{part_length}
use Rattle.edition.specs.declared.Edition.{Edition}
use Rattle.name.specs.Name.{hash_from, hash_of, legal_byte, legal_name}
use Rattle.name.proofs.Legality.{legal_none, legal_rest}

module _ (e : Edition) (b : List ℕ) (i end : ℕ) where
  -- no byte
  nothing : end ≤ i → part i (end - i) b ≡ []
  nothing h = let z : end - i ≡ 0 = omega arith in ap (λ (n : ℕ). part i n b) z

  pub legal_nothing : end ≤ i → false ≡ legal_name e (part i (end - i) b)
  legal_nothing h = legal_none e (part i (end - i) b) (omega (arith, ap length (nothing h)))

  pub hash_nothing : end ≤ i → 0 ≡ hash_of e (part i (end - i) b)
  unfolding hash_of hash_from
  hash_nothing h = sym (ap (hash_of e) (nothing h))

  legal_is : i < end → end ≤ length b → end ≤ i + 255 → (s : Bool) → s ≡ every legal_byte (part i (end - i) b)
      → s ≡ legal_name e (part i (end - i) b)
  legal_is p q r s h =
      let l : length (part i (end - i) b) ≡ end - i = part_length i (end - i) b (omega arith) in
      h ∙ legal_rest e (part i (end - i) b) (omega arith) (omega arith)

  hash_is : (h : ℕ) → h ≡ hash_from 0 (part i (end - i) b) → h ≡ hash_of e (part i (end - i) b)
  unfolding hash_of
  hash_is h x = x

  -- legality and hash at once
  pub shown : i < end → end ≤ length b → end ≤ i + 255 → (s m : Bool) (h r : ℕ) → s ≡ m → h ≡ r → h < 2 ^ 32
      → (r ≡ hash_from 0 (part i (end - i) b)) × (m ≡ every legal_byte (part i (end - i) b))
      → (s ≡ legal_name e (part i (end - i) b)) × ((h ≡ hash_of e (part i (end - i) b)) × (h < 2 ^ 32))
  shown p q t s m h r es eh l f = (legal_is p q t s (es ∙ f.1), (hash_is h (eh ∙ f.0), l))

-- a name by itself
pub hash_whole : (e : Edition) (s : List ℕ) (h : ℕ) → h ≡ hash_from 0 (part 0 (length s - 0) s) → h ≡ hash_of e s
hash_whole e s h x =
    let z : length s - 0 ≡ length s = omega arith in
    hash_is e s 0 (length s) h x ∙ ap (λ (n : ℕ). hash_of e (part 0 n s)) z ∙ ap (hash_of e) (take_all (length s) s (omega arith))
