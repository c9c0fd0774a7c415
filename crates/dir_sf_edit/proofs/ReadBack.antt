-- Entries laid out as bytes are read back.
-- Assumes nothing.
use Prim.Native.Nat.{ℕ, suc, ◌+◌, ◌^◌, ◌≤◌, ◌<◌}
use native.Mathlib.Omega.{arith}
use mathlib.Core.Bool.{true}
use mathlib.Core.Path.{◌≡◌, refl, ◌∙◌, ap, ap₂}
use mathlib.Core.List.{List, [], ◌∷◌, ◌++◌, append_assoc, append-nil}
use lib.ListN.{length, take, get_or, length-append, length-replicate}
use lib.Seq.{take_at}
use borrow.Author.Tests.{eq-eqb}
use Rattle.be.specs.Bytes.{be, to_be, byte, part, field}
use Rattle.records.specs.Records.{start}
use Rattle.records.proofs.Joined.{All, drop_behind, byte_behind, joined_ends, joined_read}
use Rattle.edition.specs.declared.Edition.{Edition}
use Rattle.be.proofs.Numbers.{length_to_be, be_to_be}
use Rattle.be.proofs.Parts.{part_at}
use Rattle.dir.specs.Target.{target}
use Rattle.dir_sf.specs.Entry.{SfEntry, entry, width_of, size_at, entry_at, entries_in, filled, entry_bytes, entries_bytes, wides_of}
use Rattle.dir_sf.specs.Fork.{count_of, stored_wides, used_width, parent, entries, lay, lay_fork}

-- an entry's numbers fit their bytes
pub record Fit (e : Edition) (w : ℕ) (x : SfEntry) : Type 0 where
  pub name_fits : length x.name < 256
  pub tag_fits : x.tag < 256 ^ 2
  pub kind_fits : x.target.kind < 256 ^ e.ftype
  pub inode_fits : x.target.inode < 256 ^ w

abbrev pub Fits : Edition → ℕ → List SfEntry → Type 0
Fits e w xs = All (Fit e w) xs

pub length_entry_bytes : (e : Edition) (w : ℕ) (x : SfEntry) → length (entry_bytes e w x) ≡ 3 + length x.name + e.ftype + w
unfolding entry_bytes
length_entry_bytes e w x = simp (length-append, length_to_be) (omega arith)

first_byte : (e : Edition) (w : ℕ) (x : SfEntry) (d : List ℕ) → get_or (entry_bytes e w x ++ d) 0 0 ≡ length x.name
unfolding entry_bytes
first_byte e w x d = refl

-- as an entry was written
long_bytes : (e : Edition) (w : ℕ) (x : SfEntry) (d : List ℕ) → size_at e w (entry_bytes e w x ++ d) 0 ≡ length (entry_bytes e w x)
unfolding size_at
long_bytes e w x d = rw (first_byte e w x d, length_entry_bytes e w x) refl

entry_bytes_read : (e : Edition) (w : ℕ) (x : SfEntry) (d : List ℕ) → Fit e w x → entry_at e w (entry_bytes e w x ++ d) 0 ≡ x
unfolding entry_at entry_bytes
entry_bytes_read e w x d f =
    let l : ℕ = length x.name in
    let t : List ℕ = to_be 2 x.tag in
    let n : List ℕ = x.name in
    let k : List ℕ = to_be e.ftype x.target.kind in
    let i : List ℕ = to_be w x.target.inode in
    let b : List ℕ = (l ∷ t ++ (n ++ (k ++ i))) ++ d in
    let lt : length t ≡ 2 = length_to_be 2 x.tag in
    let lk : length k ≡ e.ftype = length_to_be e.ftype x.target.kind in
    let q₁ : b ≡ (l ∷ []) ++ (t ++ (n ++ (k ++ (i ++ d)))) = simp append_assoc in
    let q₂ : b ≡ (l ∷ t) ++ (n ++ (k ++ (i ++ d))) = simp append_assoc in
    let q₃ : b ≡ ((l ∷ t) ++ n) ++ (k ++ (i ++ d)) = simp append_assoc in
    let q₄ : b ≡ (((l ∷ t) ++ n) ++ k) ++ (i ++ d) = simp append_assoc in
    let tag_is : field 1 2 b ≡ x.tag = rw (q₁, part_at (l ∷ []) t (n ++ (k ++ (i ++ d))) 1 2 refl lt) (be_to_be 2 x.tag f.tag_fits) in
    let name_is : part 3 l b ≡ n = rw (q₂, part_at (l ∷ t) n (k ++ (i ++ d)) 3 l (ap suc lt) refl) refl in
    let kind-is : field (3 + l) e.ftype b ≡ x.target.kind =
    rw (q₃, part_at ((l ∷ t) ++ n) k (i ++ d) (3 + l) e.ftype (simp length-append (omega arith)) lk) (be_to_be e.ftype x.target.kind f.kind_fits) in
    let inode-is : field (3 + l + e.ftype) w b ≡ x.target.inode =
    rw (q₄, part_at (((l ∷ t) ++ n) ++ k) i d (3 + l + e.ftype) w (simp length-append (omega arith)) (length_to_be w x.target.inode)) (be_to_be w x.target.inode f.inode_fits) in
    ap₂ (λ (u : ℕ) (v : List ℕ). entry u v (target (field (3 + l + e.ftype) w b) (field (3 + l) e.ftype b))) tag_is name_is
    ∙ ap₂ (λ (u v : ℕ). entry x.tag n (target v u)) kind-is inode-is

-- behind the bytes p
module _ (e : Edition) (w : ℕ) (p d : List ℕ) where
  behind : byte (length p) (p ++ d) ≡ byte 0 d
  behind = byte_behind p d 0 (length p) (omega arith)

  size_behind : size_at e w (p ++ d) (length p) ≡ size_at e w d 0
  unfolding size_at
  size_behind = rw behind refl

  entry_behind : entry_at e w (p ++ d) (length p) ≡ entry_at e w d 0
  unfolding entry_at
  entry_behind =
      let n : ℕ = byte 0 d in
      rw (
        behind,
        drop_behind p d 1 (length p + 1) refl,
        drop_behind p d 3 (length p + 3) refl,
        drop_behind p d (3 + n) (length p + 3 + n) (omega arith),
        drop_behind p d (3 + n + e.ftype) (length p + 3 + n + e.ftype) (omega arith),
      ) refl

sized : (e : Edition) (w : ℕ) (p : List ℕ) (x : SfEntry) (r : List ℕ) → size_at e w (p ++ (entry_bytes e w x ++ r)) (length p) ≡ length (entry_bytes e w x)
sized e w p x r = size_behind e w p (entry_bytes e w x ++ r) ∙ long_bytes e w x r

-- ---- a fork laid out

module _ (e : Edition) (p : ℕ) (xs : List SfEntry) where
  pub lay_count : count_of (lay e p xs) ≡ length xs
  unfolding count_of lay
  lay_count = refl

  pub lay_wides : stored_wides (lay e p xs) ≡ wides_of p xs
  unfolding stored_wides lay
  lay_wides = refl

  pub lay_width : used_width (lay e p xs) ≡ width_of (wides_of p xs)
  unfolding used_width
  lay_width = ap width_of lay_wides

  head : List ℕ
  head = length xs ∷ wides_of p xs ∷ to_be (width_of (wides_of p xs)) p

  head_long : length head ≡ 2 + width_of (wides_of p xs)
  unfolding head
  head_long = simp length_to_be (omega arith)

  lay_is : lay e p xs ≡ head ++ (entries_bytes e (width_of (wides_of p xs)) xs ++ [])
  unfolding lay head
  lay_is = rw (append-nil (entries_bytes e (width_of (wides_of p xs)) xs)) refl

  in_header : p < 256 ^ width_of (wides_of p xs) → field 2 (width_of (wides_of p xs)) (lay e p xs) ≡ p
  unfolding lay
  in_header h =
      let w : ℕ = width_of (wides_of p xs) in
      ap be (part_at (length xs ∷ wides_of p xs ∷ []) (to_be w p) (entries_bytes e w xs) 2 w refl (length_to_be w p)) ∙ be_to_be w p h

  pub lay_parent : p < 256 ^ width_of (wides_of p xs) → parent (lay e p xs) ≡ p
  unfolding parent
  lay_parent h = rw lay_width (in_header h)

  pub lay_entries : Fits e (width_of (wides_of p xs)) xs → entries e (lay e p xs) ≡ xs
  unfolding entries entries_in
  lay_entries f =
      let w : ℕ = width_of (wides_of p xs) in
      rw (lay_width, lay_count, ← head_long, lay_is)
      (joined_read (entry_bytes e w) (size_at e w) (sized e w) (entry_at e w) (Fit e w) (λ p x r g. entry_behind e w p (entry_bytes e w x ++ r) ∙ entry_bytes_read e w x r g) xs head [] f)

  pub length_lay : length (lay e p xs) ≡ 2 + width_of (wides_of p xs) + length (entries_bytes e (width_of (wides_of p xs)) xs)
  unfolding lay
  length_lay = simp (length-append, length_to_be) (omega arith)

  pub lay_filled : filled e (used_width (lay e p xs)) (lay e p xs) (count_of (lay e p xs)) (2 + used_width (lay e p xs)) ≡ true
  unfolding filled
  lay_filled =
      let w : ℕ = width_of (wides_of p xs) in
      let q : start (size_at e w (lay e p xs)) (length xs) (2 + w) ≡ length (lay e p xs) =
      rw (← head_long, lay_is) (joined_ends (entry_bytes e w) (size_at e w) (sized e w) xs head [] ∙ simp length-append (omega arith)) in
      rw (lay_width, lay_count) (eq-eqb (start (size_at e w (lay e p xs)) (length xs) (2 + w)) (length (lay e p xs)) q)

  pub length_lay_fork : (n : ℕ) → length (lay e p xs) ≤ n → length (lay_fork e n p xs) ≡ n
  unfolding lay_fork
  length_lay_fork n h = simp (length-append, length-replicate) (omega arith)

  pub lay_used : (n : ℕ) → take (length (lay e p xs)) (lay_fork e n p xs) ≡ lay e p xs
  unfolding lay_fork
  lay_used n = take_at (lay e p xs) _ (length (lay e p xs)) refl
