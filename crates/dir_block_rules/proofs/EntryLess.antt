-- One entry less: the parts stay good.
-- Assumes nothing.
use Prim.Native.Nat.{ℕ, ◌+◌, ◌<◌}
use native.Mathlib.Omega.{arith}
use mathlib.Core.Bool.{Bool, true, false, not, ◌&&◌, ◌||◌, true≢false, false≢true, beq}
use mathlib.Core.Path.{◌≡◌, refl, sym, ◌∙◌, subst}
use mathlib.Core.List.{List, [], ◌∷◌, ◌++◌, map}
use lib.Dec.{eqb}
use borrow.Author.Tests.{ne_eqb, not-true}
use Rattle.be.specs.Lists.{every, some_of, tally, same}
use Rattle.edition.specs.declared.Edition.{Edition}
use Rattle.name.specs.Name.{legal_name, hash_of, fixed_name, dot, dotdot}
use Rattle.dir_block_rules.specs.Record.{Rec, apart, entries, name}
use Rattle.dir_block_rules.specs.Block.{Slot, slot, is_stale, is_live}
use Rattle.dir_block_rules.specs.Verdict.{names_ok, numbers_ok, own_in, number_ok, once_ok, name_ok, entry_stands, has_slot}
use Rattle.be.proofs.Bools.{and_left, and_right, and_both, every_head, every_tail, every_cons, or_second, neither}
use Rattle.dir_block_rules.proofs.SlotCounts.{Apart, at_addr}
use Rattle.dir_block_rules.proofs.OwnNumber.{own_mid}
use Rattle.dir_block_rules.proofs.SlotOrder.{From}
use Rattle.dir_block_rules.proofs.IndexedEntries.{Indexed, Slotted, slotted, →slotted, at_both, addr_of}
use Rattle.be.proofs.Splits.{every_mid, some_mid, tally_mid, length_mid}
use Rattle.dir_block_rules.proofs.OneMore.{once_mid, alone}
use Rattle.dir_block_rules.proofs.GoodParts.{Good}

-- a slot made stale keeps the order
pub from_stale : (h : ℕ) (us : List Slot) (s : Slot) (vs : List Slot) → From h (us ++ s ∷ vs) → From h (us ++ slot s.hash 0 ∷ vs)
from_stale h [] s vs f = f
from_stale h (u ∷ us) s vs f = (f.0, from_stale u.hash us s vs f.1)

-- a test that fails at a stale slot and at s counts the same
same_tally : (p : Slot → Bool) (us : List Slot) (s : Slot) (vs : List Slot) → p s ≡ false → p (slot s.hash 0) ≡ false
    → tally p (us ++ slot s.hash 0 ∷ vs) ≡ tally p (us ++ s ∷ vs)
same_tally p us s vs h k = tally_mid p us (slot s.hash 0) vs ∙ rw (h, k) refl ∙ sym (tally_mid p us s vs)

module _ (e : Edition) (us : List Slot) (s : Slot) (vs : List Slot) where
  slot_stays : (r : Rec) → 0 < addr_of r → eqb s.addr (addr_of r) ≡ false → has_slot e (us ++ s ∷ vs) r ≡ true → has_slot e (us ++ slot s.hash 0 ∷ vs) r ≡ true
  slot_stays r z d h =
      let o : Slotted e (us ++ s ∷ vs) r = slotted e (us ++ s ∷ vs) r h in
      let n : eqb 0 (addr_of r) ≡ false = ne_eqb 0 (addr_of r) (λ (q : 0 ≡ addr_of r). omega arith) in
      →slotted e (us ++ slot s.hash 0 ∷ vs) r
      (record {
        by_addr = same_tally (at_addr (addr_of r)) us s vs d n ∙ o.by_addr;
        by_both = same_tally (at_both (addr_of r) (hash_of e (name r))) us s vs (rw d) (rw n) ∙ o.by_both;
      })

  each_stays : (es : List Rec) → Apart (s.addr ∷ map addr_of es) → every (has_slot e (us ++ s ∷ vs)) es ≡ true → every (has_slot e (us ++ slot s.hash 0 ∷ vs)) es ≡ true
  each_stays [] a h = refl
  each_stays (r ∷ es) a h =
      every_cons (has_slot e (us ++ slot s.hash 0 ∷ vs)) r es
      (slot_stays r a.2.0 (not-true (eqb s.addr (addr_of r)) (every_head (λ c. not (eqb s.addr c)) (addr_of r) (map addr_of es) a.1)) (every_head (has_slot e (us ++ s ∷ vs)) r es h))
      (each_stays es (a.0, every_tail (λ c. not (eqb s.addr c)) (addr_of r) (map addr_of es) a.1, a.2.2) (every_tail (has_slot e (us ++ s ∷ vs)) r es h))

  pub indexed_remove : (xs : List Rec) (x : Rec) (ys : List Rec) (n : ℕ) → Indexed e (xs ++ x ∷ ys) (us ++ s ∷ vs) n → Apart (s.addr ∷ map addr_of (xs ++ ys))
      → Indexed e (xs ++ ys) (us ++ slot s.hash 0 ∷ vs) (n + 1)
  indexed_remove xs x ys n i a =
      let z : eqb s.addr 0 ≡ false = ne_eqb s.addr 0 (λ (q : s.addr ≡ 0). omega (arith, a.0)) in
      let st : tally is_stale (us ++ s ∷ vs) ≡ 0 + tally is_stale (us ++ vs) = rw z at (tally_mid is_stale us s vs) in
      let lv : tally is_live (us ++ s ∷ vs) ≡ 1 + tally is_live (us ++ vs) = rw z at (tally_mid is_live us s vs) in
      record {
        order = from_stale 0 us s vs i.order;
        stales = tally_mid is_stale us (slot s.hash 0) vs ∙ omega (arith, st, i.stales);
        lives = tally_mid is_live us (slot s.hash 0) vs ∙ omega (arith, lv, i.lives, length_mid xs x ys);
        each = each_stays (xs ++ ys) a (and_right (has_slot e (us ++ s ∷ vs) x) (every (has_slot e (us ++ s ∷ vs)) (xs ++ ys)) (sym (every_mid (has_slot e (us ++ s ∷ vs)) xs x ys) ∙ i.each));
      }

beq_false : (a b : Bool) → beq a b ≡ true → a ≡ false → b ≡ false
beq_false true b h q = absurd (true≢false q)
beq_false false true h q = absurd (false≢true h)
beq_false false false h q = refl

or_none_left : (a b : Bool) → (a || b) ≡ false → a ≡ false
or_none_left true b h = h
or_none_left false b h = refl

pub good_remove : (e : Edition) (rs rs' xs : List Rec) (x : Rec) (ys : List Rec) (us : List Slot) (s : Slot) (vs : List Slot) (st : ℕ)
    → Good e rs (us ++ s ∷ vs) st → Apart (s.addr ∷ map addr_of (xs ++ ys)) → apart rs' ≡ true
    → entries rs ≡ xs ++ x ∷ ys → entries rs' ≡ xs ++ ys → fixed_name (name x) ≡ false
    → Good e rs' (us ++ slot s.hash 0 ∷ vs) (st + 1)
unfolding names_ok numbers_ok fixed_name
good_remove e rs rs' xs x ys us s vs st g a ap' old new fx =
    let E0 : List Rec = entries rs in
    let nm : Bool = every (name_ok e) (entries rs) in
    let h0 : Bool = entry_stands e.header rs in
    let h1 : Bool = entry_stands (e.header + 16) rs in
    let ns : (name_ok e x && every (name_ok e) (xs ++ ys)) ≡ true =
    sym (every_mid (name_ok e) xs x ys) ∙ subst (λ (es : List Rec). every (name_ok e) es ≡ true) old (and_left nm h0 (and_left (nm && h0) h1 g.names)) in
    let nx : name_ok e x ≡ true = and_left (name_ok e x) (every (name_ok e) (xs ++ ys)) ns in
    let l : Bool = legal_name e (name x) in
    let p : Bool = beq (same (name x) dot) (eqb x.off e.header) in
    let q : Bool = beq (same (name x) dotdot) (eqb x.off (e.header + 16)) in
    let o0 : eqb x.off e.header ≡ false =
    beq_false (same (name x) dot) (eqb x.off e.header) (and_right l p (and_left (l && p) q nx)) (or_none_left (same (name x) dot) (same (name x) dotdot) fx) in
    let o1 : eqb x.off (e.header + 16) ≡ false =
    beq_false (same (name x) dotdot) (eqb x.off (e.header + 16)) (and_right (l && p) q nx) (neither (same (name x) dot) (same (name x) dotdot) fx).1 in
    let d0 : some_of (λ r. eqb r.off e.header) (xs ++ ys) ≡ true =
    or_second (eqb x.off e.header) (some_of (λ r. eqb r.off e.header) (xs ++ ys))
    (sym (some_mid (λ (r : Rec). eqb r.off e.header) xs x ys)
    ∙ subst (λ (es : List Rec). some_of (λ r. eqb r.off e.header) es ≡ true) old (and_right nm h0 (and_left (nm && h0) h1 g.names))) o0 in
    let d1 : some_of (λ r. eqb r.off (e.header + 16)) (xs ++ ys) ≡ true =
    or_second (eqb x.off (e.header + 16)) (some_of (λ r. eqb r.off (e.header + 16)) (xs ++ ys))
    (sym (some_mid (λ (r : Rec). eqb r.off (e.header + 16)) xs x ys)
    ∙ subst (λ (es : List Rec). some_of (λ r. eqb r.off (e.header + 16)) es ≡ true) old (and_right (nm && h0) h1 g.names)) o1 in
    let om : own_in e (xs ++ x ∷ ys) ≡ own_in e (xs ++ ys) = own_mid e xs x ys o0 in
    let us' : (number_ok e (own_in e (xs ++ ys)) x && every (number_ok e (own_in e (xs ++ ys))) (xs ++ ys)) ≡ true =
    sym (every_mid (number_ok e (own_in e (xs ++ ys))) xs x ys) ∙ subst (λ (w : ℕ). every (number_ok e w) (xs ++ x ∷ ys) ≡ true) om (subst (λ (es : List Rec). every (number_ok e (own_in e es)) es ≡ true) old g.numbers) in
    let on : (alone e x (xs ++ ys) && once_ok e (xs ++ ys)) ≡ true = sym (once_mid e xs x ys) ∙ subst (λ (es : List Rec). once_ok e es ≡ true) old g.once in
    record {
      gaps_apart = ap';
      names = rw new
          (and_both (every (name_ok e) (xs ++ ys) && some_of (λ r. eqb r.off e.header) (xs ++ ys)) (some_of (λ r. eqb r.off (e.header + 16)) (xs ++ ys))
          (and_both (every (name_ok e) (xs ++ ys)) (some_of (λ r. eqb r.off e.header) (xs ++ ys)) (and_right (name_ok e x) (every (name_ok e) (xs ++ ys)) ns) d0) d1);
      numbers = rw new (and_right (number_ok e (own_in e (xs ++ ys)) x) (every (number_ok e (own_in e (xs ++ ys))) (xs ++ ys)) us');
      index = rw new (indexed_remove e us s vs xs x ys st (subst (λ (es : List Rec). Indexed e es (us ++ s ∷ vs) st) old g.index) a);
      once = rw new (and_right (alone e x (xs ++ ys)) (once_ok e (xs ++ ys)) on);
    }
