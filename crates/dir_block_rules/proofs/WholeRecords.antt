-- TILE: records fill the data, and are right, exactly if each record is whole.
-- Assumes nothing.
use Prim.Native.Nat.{ℕ, zero, suc, ◌+◌, ◌-◌, ◌≤◌, ◌<◌}
use native.Mathlib.Nat.{not-suc-le-zero}
use native.Mathlib.Omega.{arith}
use mathlib.Core.Bool.{Bool, true, false, ◌&&◌}
use mathlib.Core.Path.{◌≡◌, refl, sym, ◌∙◌, ap, ap₂}
use mathlib.Core.List.{List, [], ◌∷◌}
use lib.Dec.{eqb, leb}
use lib.ListN.{length, take, drop, get_or, length-take, length-drop}
use lib.Seq.{length-take-le, take_all, take-take, get_or-take}
use borrow.Author.Tests.{eq-eqb, ne_eqb, leb-true, leb-false}
use Rattle.be.specs.Lists.{every, total}
use Rattle.be.specs.Bytes.{be, part, field}
use Rattle.be.proofs.Bools.{and_left, and_right, and_both, and_true, not_right, by_cases, clash, every_head, every_tail, every_cons}
use Rattle.be.proofs.Parts.{field_part}
use Rattle.dir_block_rules.proofs.PlainTests.{eqb_add}
use Rattle.edition.proofs.Sizes.{entry_size_least}
use Rattle.edition.specs.declared.Edition.{Edition}
use Rattle.edition.specs.Edition.{entry_size}
use Rattle.dir_block_rules.specs.Record.{Rec, rec, cut, says, record_ok, whole, apart, size, gap_start}
use Rattle.dir_block_rules.specs.Block.{records, data_end}
use Rattle.dir_block_rules.specs.Verdict.{fills, tile_ok}

-- a record that is there to its end says the same alone
pub says_alone : (e : Edition) (d : List ℕ) → 8 ≤ says e d → says e d ≤ length d → says e (take (says e d) d) ≡ says e d
unfolding says
says_alone e d l h =
    by_cases (gap_start d)
    (λ g. let n : ℕ = field 2 2 d in
    let l' : 8 ≤ n = rw g at l in
    let s : gap_start (take n d) ≡ true = ap (λ (x : List ℕ). eqb (be x) 0xffff) (take-take 2 n d (omega arith)) ∙ g in
    rw (g, s) (field_part d 0 n 2 2 (omega arith)))
    (λ g. let n : ℕ = entry_size e (get_or d 8 0) in
    let long : 8 < n = omega (arith, entry_size_least e (get_or d 8 0)) in
    let s : gap_start (take n d) ≡ false = ap (λ (x : List ℕ). eqb (be x) 0xffff) (take-take 2 n d (omega arith)) ∙ g in
    rw (g, s) (ap (entry_size e) (get_or-take n d 8 0 long)))

-- what all of some records say
abbrev said : Edition → List Rec → ℕ
said e rs = total (λ r. says e r.raw) rs

right_least : (r : Rec) → record_ok r ≡ true → 8 ≤ size r
unfolding record_ok
right_least r h = leb-true 8 (size r) (and_left _ _ (and_left _ _ h))

-- records that are right: each but the last is as long as it says, so all add up to the data exactly if the last one is too
filled : (e : Edition) (k o : ℕ) (d : List ℕ) → length d ≤ k → every record_ok (cut e k o d) ≡ true
    → eqb (said e (cut e k o d)) (length d) ≡ every (whole e) (cut e k o d)
unfolding cut whole
filled e zero o [] l h = refl
filled e zero o (x ∷ xs) l h = absurd (not-suc-le-zero l)
filled e (suc k) o [] l h = refl
filled e (suc k) o (x ∷ xs) l h =
    let d : List ℕ = x ∷ xs in
    let n : ℕ = says e (x ∷ xs) in
    let r : Rec = rec o (take (says e (x ∷ xs)) (x ∷ xs)) in
    let rs : List Rec = cut e k (o + says e (x ∷ xs)) (drop (says e (x ∷ xs)) (x ∷ xs)) in
    let ok : record_ok r ≡ true = every_head record_ok r rs h in
    let least : 8 ≤ length (take n d) = right_least r ok in
    by_cases (leb n (length d))
    (λ q.
    let fits : n ≤ length d = leb-true n (length d) q in
    let long : length (take n d) ≡ n = length-take-le n d fits in
    let alone : says e (take n d) ≡ n = says_alone e d (omega arith) fits in
    let rest : length d ≡ n + length (drop n d) = simp length-drop (omega arith) in
    let ih : eqb (said e rs) (length (drop n d)) ≡ every (whole e) rs =
    filled e k (o + n) (drop n d) (omega arith) (every_tail record_ok r rs h) in
    let w : eqb (length (take n d)) (says e (take n d)) ≡ true = eq-eqb (length (take n d)) (says e (take n d)) (long ∙ sym alone) in
    ap₂ (λ (m l : ℕ). eqb (m + said e rs) l) alone rest ∙ eqb_add n (said e rs) (length (drop n d)) ∙ ih ∙ sym (rw (w, ok)))
    (λ q.
    let over : length d < n = leb-false n (length d) q in
    let all : take n d ≡ d = take_all n d (omega arith) in
    let w : eqb (length (take n d)) (says e (take n d)) ≡ false =
    ap (λ (c : List ℕ). eqb (length c) (says e c)) all ∙ ne_eqb (length d) n (λ (z : length d ≡ n). omega arith) in
    ap (λ (c : List ℕ). eqb (says e c + said e rs) (length d)) all
    ∙ ne_eqb (n + said e rs) (length d) (λ (z : n + said e rs ≡ length d). omega arith) ∙ sym (rw w))

wholes_right : (e : Edition) (rs : List Rec) → every (whole e) rs ≡ true → every record_ok rs ≡ true
unfolding whole
wholes_right e [] h = refl
wholes_right e (r ∷ rs) h =
    every_cons record_ok r rs (and_right (eqb (size r) (says e r.raw)) _ (every_head (whole e) r rs h)) (wholes_right e rs (every_tail (whole e) r rs h))

-- the data d cut into records: they say as much as it has and are right, exactly if each is whole
whole_law : (e : Edition) (k o : ℕ) (d : List ℕ) → length d ≤ k
    → (eqb (said e (cut e k o d)) (length d) && every record_ok (cut e k o d)) ≡ every (whole e) (cut e k o d)
whole_law e k o d l =
    let rs : List Rec = cut e k o d in
    let sums : Bool = eqb (said e rs) (length d) in
    by_cases (every record_ok rs)
    (λ q. rw q (and_true sums) ∙ filled e k o d l q)
    (λ q. not_right sums (every record_ok rs) q ∙ by_cases (every (whole e) rs) (λ w. absurd (clash (wholes_right e rs w) q)) (λ w. sym w))

-- TILE of a block, in both forms
pub tile_law : (e : Edition) (b : List ℕ) → tile_ok e b ≡ (every (whole e) (records e b) && apart (records e b))
unfolding tile_ok fills records data_end
tile_law e b =
    let n : ℕ = data_end b - e.header in
    let d : List ℕ = part e.header n b in
    let long : length d ≡ n = simp (length-take, length-drop) (omega arith) in
    ap (λ (m : ℕ). eqb (said e (records e b)) m && every record_ok (records e b) && apart (records e b)) (sym long)
    ∙ ap (λ (t : Bool). t && apart (records e b)) (whole_law e (length b) e.header d (simp (length-take, length-drop) (omega arith)))

module _ (e : Edition) (b : List ℕ) where
  pub tile_whole : tile_ok e b ≡ true → every (whole e) (records e b) ≡ true
  tile_whole h = and_left (every (whole e) (records e b)) (apart (records e b)) (sym (tile_law e b) ∙ h)

  pub tile_apart : tile_ok e b ≡ true → apart (records e b) ≡ true
  tile_apart h = and_right (every (whole e) (records e b)) (apart (records e b)) (sym (tile_law e b) ∙ h)

  pub tile_both : every (whole e) (records e b) ≡ true → apart (records e b) ≡ true → tile_ok e b ≡ true
  tile_both h k = tile_law e b ∙ and_both (every (whole e) (records e b)) (apart (records e b)) h k
