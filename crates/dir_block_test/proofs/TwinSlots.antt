-- TWICE: two entries of one name are two live slots of one hash whose entries have one name.
-- Assumes nothing.
use Prim.Native.Nat.{ℕ, ◌+◌, ◌*◌, ◌≤◌, ◌<◌}
use native.Mathlib.Omega.{arith}
use mathlib.Core.Bool.{Bool, true, false, not, cond, ◌&&◌, ◌||◌, false≢true}
use mathlib.Core.Path.{◌≡◌, refl, sym, ◌∙◌, ap, ap₂, subst}
use mathlib.Core.List.{List, [], ◌∷◌, ◌++◌, map, append_assoc}
use lib.Dec.{eqb}
use borrow.Author.Tests.{eqb-true, eqb-false, eq-eqb, ne_eqb, not-true}
use Rattle.be.specs.Lists.{every, some_of, tally}
use Rattle.edition.specs.declared.Edition.{Edition}
use Rattle.name.specs.Name.{hash_of, same_name}
use Rattle.dir_block_rules.specs.Record.{Rec, name}
use Rattle.dir_block_rules.specs.Block.{Slot, is_live}
use Rattle.dir_block_rules.specs.Lookup.{name_at}
use Rattle.dir_block_rules.specs.Verdict.{once_ok, has_slot}
use Rattle.be.proofs.Bools.{by_cases, and_left, and_right, and_both, clash, and_false}
use Rattle.dir_block_rules.proofs.SlotOrder.{From}
use Rattle.be.proofs.Splits.{some_mid, tally_mid, Split, some_split, some_at, every_at, tally_split, split_cons, every_map}
use Rattle.dir_block_rules.proofs.OneMore.{once_mid}
use Rattle.name.proofs.Same.{same_name_swap, same_name_hash}
use Rattle.dir_block_rules.proofs.SlotCounts.{Apart, at_addr}
use Rattle.dir_block_rules.proofs.IndexedEntries.{Indexed, addr_of, at_both, Slotted, slotted}
use Rattle.dir_block_rules.proofs.RecordPlaces.{apart_pos, apart_front}
use Rattle.dir_block_rules.proofs.SearchFinds.{Owner, owner, Reads, read_at as reads}
use Rattle.dir_block_twice.specs.Twice.{clash_from, once_in}

pub eqb_swap : (x y : ℕ) → eqb x y ≡ eqb y x
eqb_swap x y = by_cases (eqb x y) (λ q. q ∙ sym (eq-eqb y x (sym (eqb-true x y q)))) (λ q. q ∙ sym (ne_eqb y x (λ (z : y ≡ x). eqb-false x y q (sym z))))

-- no element stands in relation to a later one
module _ {A : Type 0} (c : A → A → Bool) where
  abbrev pub free : List A → Bool
  free [] = true
  free (x ∷ xs) = not (some_of (c x) xs) && free xs

  -- a list that is not free has an element in relation to another
  pub bound : (xs : List A) → free xs ≡ false → (s : Split xs) × (some_of (c s.here) s.behind ≡ true)
  bound [] h = absurd (false≢true (sym h))
  bound (x ∷ xs) h =
      by_cases (some_of (c x) xs)
      (λ q. (record { before = []; here = x; behind = xs; is = refl }, q))
      (λ q. let r : (s : Split xs) × (some_of (c s.here) s.behind ≡ true) = bound xs (rw q at h) in (split_cons x xs r.0, r.1))

  free_mid : ((x y : A) → c x y ≡ c y x) → (xs : List A) (x : A) (ys : List A) → some_of (c x) (xs ++ ys) ≡ true → free (xs ++ x ∷ ys) ≡ false
  free_mid sy [] x ys h = rw h
  free_mid sy (z ∷ xs) x ys h =
      by_cases (c x z)
      (λ q. rw (some_mid (c z) xs x ys, sy z x, q))
      (λ q. rw (free_mid sy xs x ys (rw q at h)) (and_false (not (some_of (c z) (xs ++ x ∷ ys)))))

  -- the other way, for a relation that is symmetric
  pub unfree : ((x y : A) → c x y ≡ c y x) → (xs : List A) (s : Split xs) → some_of (c s.here) (s.before ++ s.behind) ≡ true → free xs ≡ false
  unfree sy xs s h = ap free s.is ∙ free_mid sy s.before s.here s.behind h

-- a run that ends at the first other hash, and all slots of that hash
module _ (e : Edition) (b : List ℕ) where
  abbrev pub twin : Slot → Slot → Bool
  twin s u = is_live s && (eqb u.hash s.hash && (is_live u && same_name e (name_at b (8 * s.addr)) (name_at b (8 * u.addr))))

  none_past : (h c g : ℕ) → h < g → (ss : List Slot) → From g ss
      → some_of (λ u. eqb u.hash h && (is_live u && same_name e (name_at b (8 * c)) (name_at b (8 * u.addr)))) ss ≡ false
  none_past h c g l [] f = refl
  none_past h c g l (u ∷ ss) f =
      rw (ne_eqb u.hash h (λ (z : u.hash ≡ h). omega (arith, f.0))) (none_past h c u.hash (omega (arith, f.0)) ss f.1)

  run_is : (h c g : ℕ) → h ≤ g → (ss : List Slot) → From g ss
      → clash_from e b h c ss ≡ some_of (λ u. eqb u.hash h && (is_live u && same_name e (name_at b (8 * c)) (name_at b (8 * u.addr)))) ss
  unfolding clash_from
  run_is h c g l [] f = refl
  run_is h c g l (u ∷ ss) f =
      by_cases (eqb u.hash h)
      (λ q. rw (q, run_is h c u.hash (omega (arith, f.0)) ss f.1))
      (λ q. rw q (sym (none_past h c u.hash (lt_of (omega (arith, f.0)) (eqb-false u.hash h q)) ss f.1)))
    where
      lt_of : {x y : ℕ} → x ≤ y → (y ≡ x → ⊥) → x < y
      lt_of a n = omega arith

  some_and : (t : Bool) (p : Slot → Bool) (ss : List Slot) → some_of (λ u. t && p u) ss ≡ (t && some_of p ss)
  some_and true p ss = refl
  some_and false p [] = refl
  some_and false p (u ∷ ss) = some_and false p ss

  pub once_free : (g : ℕ) (ss : List Slot) → From g ss → once_in e b ss ≡ free twin ss
  unfolding once_in
  once_free g [] f = refl
  once_free g (s ∷ ss) f =
      rw (
        run_is s.hash s.addr s.hash (omega arith) ss f.1,
        once_free s.hash ss f.1,
        some_and (is_live s) (λ u. eqb u.hash s.hash && (is_live u && same_name e (name_at b (8 * s.addr)) (name_at b (8 * u.addr)))) ss,
      )

  pub twin_swap : (s u : Slot) → twin s u ≡ twin u s
  twin_swap s u = rw (eqb_swap u.hash s.hash, same_name_swap e (name_at b (8 * s.addr)) (name_at b (8 * u.addr)))
      (exchange (is_live s) (eqb s.hash u.hash) (is_live u) (same_name e (name_at b (8 * u.addr)) (name_at b (8 * s.addr))))
    where
      exchange : (x y z w : Bool) → (x && (y && (z && w))) ≡ (z && (y && (x && w)))
      exchange true true true w = refl
      exchange true true false w = refl
      exchange true false true w = refl
      exchange true false false w = refl
      exchange false true true w = refl
      exchange false true false w = refl
      exchange false false true w = refl
      exchange false false false w = refl

module _ (e : Edition) (b : List ℕ) (es : List Rec) (ss : List Slot) (m : ℕ) (i : Indexed e es ss m) (a : Apart (map addr_of es)) (d : Reads e b es) where
  abbrev like : Rec → Rec → Bool
  like r s = same_name e (name r) (name s)

  read_at : (t : Split es) → name_at b (8 * addr_of t.here) ≡ name t.here
  read_at = reads e b [] es ss m i a d

  slot_of : (t : Split es) → Slotted e ss t.here
  slot_of t = slotted e ss t.here (every_at (has_slot e ss) t.before t.here t.behind (rw t.is at i.each))

  live_of : (t : Split es) → not (eqb (addr_of t.here) 0) ≡ true
  live_of t = every_at (λ r. not (eqb (addr_of r) 0)) t.before t.here t.behind (rw t.is at (apart_pos es a))

  once_is_free : (rs : List Rec) → once_ok e rs ≡ free like rs
  unfolding once_ok
  once_is_free [] = refl
  once_is_free (r ∷ rs) = ap (λ (t : Bool). not (some_of (like r) rs) && t) (once_is_free rs)

  -- an element of what stands behind another, as an element of the list
  deeper : {A : Type 0} (l : List A) (t : Split l) (v : Split t.behind) → l ≡ (t.before ++ t.here ∷ v.before) ++ v.here ∷ v.behind
  deeper l t v = t.is ∙ ap (λ (k : List _). t.before ++ t.here ∷ k) v.is ∙ sym (append_assoc t.before (t.here ∷ v.before) (v.here ∷ v.behind))

  abbrev deep : {A : Type 0} (l : List A) (t : Split l) → Split t.behind → Split l
  deep l t v = record { before = t.before ++ t.here ∷ v.before; here = v.here; behind = v.behind; is = deeper l t v }

  -- entries at two places have two addresses
  other_addr : (t : Split es) (v : Split t.behind) → addr_of t.here ≡ addr_of v.here → ⊥
  other_addr t v z =
      let x : Apart (addr_of t.here ∷ map addr_of (t.before ++ t.behind)) =
      apart_front t.before t.here t.behind (subst (λ (l : List Rec). Apart (map addr_of l)) t.is a) in
      let y : every (λ r. not (eqb (addr_of t.here) (addr_of r))) (t.before ++ t.behind) ≡ true =
      sym (every_map (λ c. not (eqb (addr_of t.here) c)) addr_of (t.before ++ t.behind)) ∙ x.1 in
      let w : every (λ r. not (eqb (addr_of t.here) (addr_of r))) ((t.before ++ v.before) ++ v.here ∷ v.behind) ≡ true =
      ap (every (λ r. not (eqb (addr_of t.here) (addr_of r)))) (append_assoc t.before v.before (v.here ∷ v.behind) ∙ ap (λ (k : List Rec). t.before ++ k) (sym v.is)) ∙ y in
      let n : not (eqb (addr_of t.here) (addr_of v.here)) ≡ true =
      every_at (λ r. not (eqb (addr_of t.here) (addr_of r))) (t.before ++ v.before) v.here v.behind w in
      eqb-false (addr_of t.here) (addr_of v.here) (not-true (eqb (addr_of t.here) (addr_of v.here)) n) z

  -- two slots of two entries of one name
  twins : (t v : Split es) (s u : Slot) → at_both (addr_of t.here) (hash_of e (name t.here)) s ≡ true
      → at_both (addr_of v.here) (hash_of e (name v.here)) u ≡ true → like t.here v.here ≡ true → twin e b s u ≡ true
  twins t v s u p q l =
      let sa : s.addr ≡ addr_of t.here = eqb-true s.addr (addr_of t.here) (and_left (eqb s.addr (addr_of t.here)) _ p) in
      let ua : u.addr ≡ addr_of v.here = eqb-true u.addr (addr_of v.here) (and_left (eqb u.addr (addr_of v.here)) _ q) in
      let sh : s.hash ≡ hash_of e (name t.here) = eqb-true s.hash (hash_of e (name t.here)) (and_right (eqb s.addr (addr_of t.here)) (eqb s.hash (hash_of e (name t.here))) p) in
      let uh : u.hash ≡ hash_of e (name v.here) = eqb-true u.hash (hash_of e (name v.here)) (and_right (eqb u.addr (addr_of v.here)) (eqb u.hash (hash_of e (name v.here))) q) in
      let hh : hash_of e (name t.here) ≡ hash_of e (name v.here) = same_name_hash e (name t.here) (name v.here) l in
      let nm : same_name e (name_at b (8 * s.addr)) (name_at b (8 * u.addr)) ≡ true =
      ap₂ (λ (x y : List ℕ). same_name e x y) (ap (λ (k : ℕ). name_at b (8 * k)) sa ∙ read_at t) (ap (λ (k : ℕ). name_at b (8 * k)) ua ∙ read_at v) ∙ l in
      and_both (is_live s) _ (ap (λ (k : ℕ). not (eqb k 0)) sa ∙ live_of t)
      (and_both (eqb u.hash s.hash) _ (eq-eqb u.hash s.hash (uh ∙ sym hh ∙ sym sh))
      (and_both (is_live u) _ (ap (λ (k : ℕ). not (eqb k 0)) ua ∙ live_of v) nm))

  pub slots_clash : once_ok e es ≡ false → free (twin e b) ss ≡ false
  slots_clash h =
      let x : (t : Split es) × (some_of (like t.here) t.behind ≡ true) = bound like es (sym (once_is_free es) ∙ h) in
      let t : Split es = x.0 in
      let y : (v : Split t.behind) × (like t.here v.here ≡ true) = some_split (like t.here) t.behind x.1 in
      let v : Split es = deep es t y.0 in
      let r : Rec = t.here in
      let q : Rec = v.here in
      let B : Slot → Bool = at_both (addr_of q) (hash_of e (name q)) in
      let us : (u : Split ss) × (at_both (addr_of r) (hash_of e (name r)) u.here ≡ true) =
      tally_split (at_both (addr_of r) (hash_of e (name r))) ss (omega (arith, (slot_of t).by_both)) in
      let u : Split ss = us.0 in
      let ua : u.here.addr ≡ addr_of r = eqb-true u.here.addr (addr_of r) (and_left (eqb u.here.addr (addr_of r)) _ us.1) in
      let not_there : eqb u.here.addr (addr_of q) ≡ false = ne_eqb u.here.addr (addr_of q) (λ (z : u.here.addr ≡ addr_of q). other_addr t y.0 (sym ua ∙ z)) in
      let count : cond (at_both (addr_of q) (hash_of e (name q)) u.here) 1 0 + tally (at_both (addr_of q) (hash_of e (name q))) (u.before ++ u.behind) ≡ 1 =
      sym (tally_mid (at_both (addr_of q) (hash_of e (name q))) u.before u.here u.behind) ∙ ap (tally (at_both (addr_of q) (hash_of e (name q)))) (sym u.is) ∙ (slot_of v).by_both in
      let rest : 0 + tally (at_both (addr_of q) (hash_of e (name q))) (u.before ++ u.behind) ≡ 1 = rw not_there at count in
      let ws : (w : Split (u.before ++ u.behind)) × (at_both (addr_of q) (hash_of e (name q)) w.here ≡ true) =
      tally_split (at_both (addr_of q) (hash_of e (name q))) (u.before ++ u.behind) (omega arith) in
      let w : Split (u.before ++ u.behind) = ws.0 in
      unfree (twin e b) (twin_swap e b) ss u
      (ap (some_of (twin e b u.here)) w.is ∙ some_at (twin e b u.here) w.before w.here w.behind (twins t v u.here w.here us.1 ws.1 y.1))

  some_le : (p q : Rec → Bool) → ((r : Rec) → p r ≡ true → q r ≡ true) → (rs : List Rec) → some_of p rs ≡ true → some_of q rs ≡ true
  some_le p q f [] h = h
  some_le p q f (r ∷ rs) h =
      by_cases (q r) (λ z. rw z) (λ z. by_cases (p r) (λ w. absurd (clash (f r w) z)) (λ w. rw z (some_le p q f rs (rw w at h))))

  pub entries_clash : free (twin e b) ss ≡ false → once_ok e es ≡ false
  entries_clash h =
      let x : (t : Split ss) × (some_of (twin e b t.here) t.behind ≡ true) = bound (twin e b) ss h in
      let t : Split ss = x.0 in
      let y : (v : Split t.behind) × (twin e b t.here v.here ≡ true) = some_split (twin e b t.here) t.behind x.1 in
      let v : Split ss = deep ss t y.0 in
      let s : Slot = t.here in
      let u : Slot = v.here in
      let ls : is_live s ≡ true = and_left (is_live s) _ y.1 in
      let past : (is_live u && same_name e (name_at b (8 * s.addr)) (name_at b (8 * u.addr))) ≡ true =
      and_right (eqb u.hash s.hash) _ (and_right (is_live s) _ y.1) in
      let lu : is_live u ≡ true = and_left (is_live u) _ past in
      let os : Owner e es s = owner e es t.before s t.behind m (rw t.is at i) a ls in
      let ou : Owner e es u = owner e es v.before u v.behind m (subst (λ (l : List Slot). Indexed e es l m) v.is i) a lu in
      let r : Rec = os.split.here in
      let q : Rec = ou.split.here in
      let alike : like r q ≡ true =
      sym (ap₂ (λ (k l : List ℕ). same_name e k l) (ap (λ (k : ℕ). name_at b (8 * k)) (sym os.addr_is) ∙ read_at os.split) (ap (λ (k : ℕ). name_at b (8 * k)) (sym ou.addr_is) ∙ read_at ou.split))
      ∙ and_right (is_live u) _ past in
      let count : cond (at_addr (addr_of r) s) 1 0 + tally (at_addr (addr_of r)) (t.before ++ t.behind) ≡ 1 =
      sym (tally_mid (at_addr (addr_of r)) t.before s t.behind) ∙ ap (tally (at_addr (addr_of r))) (sym t.is) ∙ (slot_of os.split).by_addr in
      let none : 1 + tally (at_addr (addr_of r)) (t.before ++ t.behind) ≡ 1 = rw (eq-eqb s.addr (addr_of r) (sym os.addr_is)) at count in
      let regroup : t.before ++ t.behind ≡ (t.before ++ y.0.before) ++ u ∷ y.0.behind =
      ap (λ (k : List Slot). t.before ++ k) y.0.is ∙ sym (append_assoc t.before y.0.before (u ∷ y.0.behind)) in
      let there : tally (at_addr (addr_of r)) (t.before ++ t.behind) ≡ cond (at_addr (addr_of r) u) 1 0 + tally (at_addr (addr_of r)) ((t.before ++ y.0.before) ++ y.0.behind) =
      ap (tally (at_addr (addr_of r))) regroup ∙ tally_mid (at_addr (addr_of r)) (t.before ++ y.0.before) u y.0.behind in
      let differ : eqb (addr_of r) u.addr ≡ false =
      ne_eqb (addr_of r) u.addr (λ (z : addr_of r ≡ u.addr).
      let there' : tally (at_addr (addr_of r)) (t.before ++ t.behind) ≡ 1 + tally (at_addr (addr_of r)) ((t.before ++ y.0.before) ++ y.0.behind) = rw (eq-eqb u.addr (addr_of r) (sym z)) at there in
      omega arith) in
      let T : Rec → Bool = λ c. like r c && eqb (addr_of c) u.addr in
      let hit : some_of (λ c. like r c && eqb (addr_of c) u.addr) es ≡ true =
      ap (some_of (λ c. like r c && eqb (addr_of c) u.addr)) ou.split.is
      ∙ some_at (λ c. like r c && eqb (addr_of c) u.addr) ou.split.before q ou.split.behind (and_both (like r q) _ alike (eq-eqb (addr_of q) u.addr ou.addr_is)) in
      let mid : ((like r r && eqb (addr_of r) u.addr) || some_of (λ c. like r c && eqb (addr_of c) u.addr) (os.split.before ++ os.split.behind)) ≡ true =
      sym (some_mid (λ c. like r c && eqb (addr_of c) u.addr) os.split.before r os.split.behind) ∙ ap (some_of (λ c. like r c && eqb (addr_of c) u.addr)) (sym os.split.is) ∙ hit in
      let mid' : some_of (λ c. like r c && eqb (addr_of c) u.addr) (os.split.before ++ os.split.behind) ≡ true = skip (like r r) (eqb (addr_of r) u.addr) _ differ mid in
      let found : some_of (like r) (os.split.before ++ os.split.behind) ≡ true =
      some_le (λ c. like r c && eqb (addr_of c) u.addr) (like r) (λ c z. and_left (like r c) _ z) (os.split.before ++ os.split.behind) mid' in
      ap (once_ok e) os.split.is ∙ once_mid e os.split.before r os.split.behind ∙ rw found
    where
      skip : (x y z : Bool) → y ≡ false → ((x && y) || z) ≡ true → z ≡ true
      skip true y z h k = rw h at k
      skip false y z h k = k

  pub twice_law : once_ok e es ≡ free (twin e b) ss
  twice_law =
      by_cases (once_ok e es)
      (λ p. by_cases (free (twin e b) ss) (λ q. p ∙ sym q) (λ q. absurd (clash p (entries_clash q))))
      (λ p. p ∙ sym (slots_clash p))
