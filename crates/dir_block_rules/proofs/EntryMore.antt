-- One entry more: the parts stay good.
-- Assumes nothing.
use Prim.Native.Nat.{ℕ, ◌+◌, ◌-◌, ◌/◌, ◌^◌, ◌<◌}
use native.Mathlib.Omega.{arith}
use mathlib.Core.Bool.{Bool, true, false, not, ◌&&◌}
use mathlib.Core.Path.{◌≡◌, sym, ◌∙◌, ap, ap₂, subst}
use mathlib.Core.List.{List, ◌∷◌, ◌++◌, map, append_assoc}
use lib.Dec.{eqb}
use lib.ListN.{replicate, length, take, get_or, length-append}
use lib.Seq.{take-append_seam, take_at}
use borrow.Author.Tests.{eqb-true, eqb-false, ne_eqb, not-true}
use Rattle.be.specs.Lists.{every, some_of, same}
use Rattle.be.specs.Bytes.{be, to_be, field}
use Rattle.edition.specs.declared.Edition.{Edition}
use Rattle.edition.specs.Edition.{entry_size, Sane}
use Rattle.name.specs.Name.{legal_name, hash_of, same_name, fixed_name, dot, dotdot}
use Rattle.dir.specs.declared.Target.{Target}
use Rattle.dir.specs.Target.{target, kept_of, legal_type}
use Rattle.dir.proofs.FileTypes.{kept_read}
use Rattle.dir_block_rules.specs.Record.{target_of, kind_of, pad, Rec, rec, apart, entries, is_entry, name, number, entry_bytes}
use Rattle.dir_block_rules.specs.Block.{Slot, slot}
use Rattle.dir_block_rules.specs.Verdict.{names_ok, numbers_ok, own_in, number_ok, name_ok, entry_stands}
use Rattle.dir_block_rules.specs.Change.{insert_slot}
use Rattle.be.proofs.Bools.{and_left, and_right, and_both, or_right, neither}
use Rattle.be.proofs.Numbers.{be_to_be, length_to_be}
use Rattle.be.proofs.Parts.{part_at}
use Rattle.dir_block_rules.proofs.WritesLeave.{entry_namelen}
use Rattle.dir_block_rules.proofs.OwnNumber.{own_mid}
use Rattle.dir_block_rules.proofs.CutJoin.{Laid}
use Rattle.dir_block_rules.proofs.SlotCounts.{Apart}
use Rattle.dir_block_rules.proofs.IndexedEntries.{Kept, indexed_insert, addr_of}
use Rattle.be.proofs.Splits.{every_mid, some_mid, Split, some_split, every_at, every_map}
use Rattle.dir_block_rules.proofs.OneMore.{once_mid}
use Rattle.dir_block_rules.proofs.RecordPlaces.{apart_keep, apart_front}
use Rattle.dir_block_rules.proofs.GoodParts.{Good}

-- the name and the number of a new entry
pub entry_name : (e : Edition) (o : ℕ) (i : Target) (n : List ℕ) → name (rec o (entry_bytes e o i n)) ≡ n
unfolding entry_bytes to_be
entry_name e o i n =
    let pd : List ℕ = pad e i.kind n in
    ap (take (length n)) (append_assoc n pd (to_be 2 o)) ∙ take-append_seam n (pd ++ to_be 2 o)

pub entry_number : (e : Edition) (o : ℕ) (i : Target) (n : List ℕ) → i.inode < 256 ^ 8 → number (rec o (entry_bytes e o i n)) ≡ i.inode
unfolding entry_bytes
entry_number e o i n h =
    let pd : List ℕ = pad e i.kind n in
    let q : entry_bytes e o i n ≡ to_be 8 i.inode ++ ((length n ∷ n) ++ (pd ++ to_be 2 o)) =
    append_assoc (to_be 8 i.inode ++ (length n ∷ n)) pd (to_be 2 o) ∙ append_assoc (to_be 8 i.inode) (length n ∷ n) (pd ++ to_be 2 o) in
    ap be (ap (take 8) q ∙ take_at (to_be 8 i.inode) ((length n ∷ n) ++ (pd ++ to_be 2 o)) 8 (length_to_be 8 i.inode)) ∙ be_to_be 8 i.inode h

-- and its file type, where the edition has one
pub entry_kind : (e : Edition) → Sane e → (o : ℕ) (i : Target) (n : List ℕ) → legal_type e i.kind ≡ true → kind_of e (rec o (entry_bytes e o i n)) ≡ (kept_of e i).kind
unfolding entry_bytes pad
entry_kind e sane o i n h =
    let t : List ℕ = to_be e.ftype i.kind in
    let z : List ℕ = replicate (entry_size e (length n) - (11 + e.ftype + length n)) 0 in
    let f : List ℕ = to_be 8 i.inode ++ (length n ∷ n) in
    let q : entry_bytes e o i n ≡ f ++ (t ++ (z ++ to_be 2 o)) = append_assoc f (t ++ z) (to_be 2 o) ∙ ap (λ (l : List ℕ). f ++ l) (append_assoc t z (to_be 2 o)) in
    let l : length f ≡ 9 + length n = simp (length-append, length_to_be) (omega arith) in
    let nl : get_or (entry_bytes e o i n) 8 0 ≡ length n = entry_namelen e o i n in
    ap₂ (λ (k : ℕ) (c : List ℕ). field (9 + k) e.ftype c) nl q
    ∙ ap be (part_at f t (z ++ to_be 2 o) (9 + length n) e.ftype l (length_to_be e.ftype i.kind))
    ∙ kept_read e sane i h

pub entry_target : (e : Edition) → Sane e → (o : ℕ) (i : Target) (n : List ℕ) → i.inode < 256 ^ 8 → legal_type e i.kind ≡ true → target_of e (rec o (entry_bytes e o i n)) ≡ kept_of e i
entry_target e sane o i n h k = ap₂ (λ (j t : ℕ). target j t) (entry_number e o i n h) (entry_kind e sane o i n k)

-- an entry elsewhere has another offset
other_off : (x : Rec) (es : List Rec) (o : ℕ) → Apart (addr_of x ∷ map addr_of es) → some_of (λ r. eqb r.off o) es ≡ true → eqb x.off o ≡ false
other_off x es o a h =
    let t : (t : Split es) × (eqb t.here.off o ≡ true) = some_split (λ r. eqb r.off o) es h in
    let r : Rec = t.0.here in
    let q : not (eqb (addr_of x) (addr_of r)) ≡ true =
    every_at (λ r. not (eqb (addr_of x) (addr_of r))) t.0.before r t.0.behind
    (rw t.0.is at (sym (every_map (λ c. not (eqb (addr_of x) c)) addr_of es) ∙ a.1)) in
    ne_eqb x.off o (λ (z : x.off ≡ o).
    eqb-false (addr_of x) (addr_of r) (not-true (eqb (addr_of x) (addr_of r)) q) (ap (λ (m : ℕ). m / 8) (z ∙ sym (eqb-true r.off o t.1))))

module _ (e : Edition) (xs : List Rec) (x : Rec) (ys : List Rec) (a : Apart (addr_of x ∷ map addr_of (xs ++ ys)))
    (lg : legal_name e (name x) ≡ true) (fx : fixed_name (name x) ≡ false) where
  grown_name : some_of (λ r. eqb r.off e.header) (xs ++ ys) ≡ true → some_of (λ r. eqb r.off (e.header + 16)) (xs ++ ys) ≡ true → name_ok e x ≡ true
  unfolding fixed_name
  grown_name h k =
      rw (
        lg,
        (neither (same (name x) dot) (same (name x) dotdot) fx).0,
        (neither (same (name x) dot) (same (name x) dotdot) fx).1,
        other_off x (xs ++ ys) e.header a h,
        other_off x (xs ++ ys) (e.header + 16) a k,
      )

pub good_insert : (e : Edition) (rs rs' xs : List Rec) (x : Rec) (ys : List Rec) (ss ts : List Slot) (st m : ℕ) → Sane e
    → Good e rs ss st → Kept ss ts m → Laid e e.header rs' → apart rs' ≡ true
    → entries rs ≡ xs ++ ys → entries rs' ≡ xs ++ x ∷ ys
    → legal_name e (name x) ≡ true → number_ok e (own_in e (xs ++ ys)) x ≡ true → fixed_name (name x) ≡ false
    → some_of (λ r. same_name e (name x) (name r)) (xs ++ ys) ≡ false
    → Good e rs' (insert_slot (slot (hash_of e (name x)) (addr_of x)) ts) m
unfolding names_ok numbers_ok
good_insert e rs rs' xs x ys ss ts st m sane g k l ap' old new lg ln fx ab =
    let a : Apart (addr_of x ∷ map addr_of (xs ++ ys)) =
    apart_front xs x ys (subst (λ (es : List Rec). Apart (map addr_of es)) new (apart_keep e is_entry e.header rs' (omega (arith, sane.magic_before, sane.best_inside)) l)) in
    let nm : Bool = every (name_ok e) (entries rs) in
    let h0 : Bool = entry_stands e.header rs in
    let h1 : Bool = entry_stands (e.header + 16) rs in
    let d0 : some_of (λ r. eqb r.off e.header) (xs ++ ys) ≡ true =
    subst (λ (es : List Rec). some_of (λ r. eqb r.off e.header) es ≡ true) old (and_right nm h0 (and_left (nm && h0) h1 g.names)) in
    let d1 : some_of (λ r. eqb r.off (e.header + 16)) (xs ++ ys) ≡ true =
    subst (λ (es : List Rec). some_of (λ r. eqb r.off (e.header + 16)) es ≡ true) old (and_right (nm && h0) h1 g.names) in
    let ns : every (name_ok e) (xs ++ ys) ≡ true =
    subst (λ (es : List Rec). every (name_ok e) es ≡ true) old (and_left nm h0 (and_left (nm && h0) h1 g.names)) in
    let us : every (number_ok e (own_in e (xs ++ ys))) (xs ++ ys) ≡ true =
    subst (λ (es : List Rec). every (number_ok e (own_in e es)) es ≡ true) old g.numbers in
    record {
      gaps_apart = ap';
      names = rw new
          (and_both (every (name_ok e) (xs ++ x ∷ ys) && some_of (λ r. eqb r.off e.header) (xs ++ x ∷ ys)) (some_of (λ r. eqb r.off (e.header + 16)) (xs ++ x ∷ ys))
          (and_both (every (name_ok e) (xs ++ x ∷ ys)) (some_of (λ r. eqb r.off e.header) (xs ++ x ∷ ys))
          (every_mid (name_ok e) xs x ys ∙ and_both (name_ok e x) (every (name_ok e) (xs ++ ys)) (grown_name e xs x ys a lg fx d0 d1) ns)
          (some_mid (λ r. eqb r.off e.header) xs x ys ∙ or_right (eqb x.off e.header) (some_of (λ r. eqb r.off e.header) (xs ++ ys)) d0))
          (some_mid (λ r. eqb r.off (e.header + 16)) xs x ys ∙ or_right (eqb x.off (e.header + 16)) (some_of (λ r. eqb r.off (e.header + 16)) (xs ++ ys)) d1));
      numbers = rw (new, own_mid e xs x ys (other_off x (xs ++ ys) e.header a d0))
          (every_mid (number_ok e (own_in e (xs ++ ys))) xs x ys ∙ and_both (number_ok e (own_in e (xs ++ ys)) x) (every (number_ok e (own_in e (xs ++ ys))) (xs ++ ys)) ln us);
      index = rw new (indexed_insert e x ss ts m k xs ys st (rw old at g.index) a);
      once = rw new (once_mid e xs x ys ∙ rw ab (rw old at g.once));
    }
