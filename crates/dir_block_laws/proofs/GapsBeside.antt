-- The gaps beside an entry, read in the block: behind it at its end, and before it by the tag that ends the record before.
-- Assumes nothing.
use Prim.Native.Nat.{ℕ, suc, ◌+◌, ◌-◌, ◌*◌, ◌≤◌, ◌<◌}
use native.Mathlib.Omega.{arith}
use mathlib.Core.Bool.{true, false}
use mathlib.Core.Path.{◌≡◌, refl, sym, ◌∙◌, ap, ap₂, subst}
use mathlib.Core.List.{List, [], ◌∷◌, ◌++◌, append_assoc, append-nil}
use lib.ListN.{length, take, drop, get_or, length-append, length-drop, length-take}
use lib.Seq.{drop-drop, drop-append-le, take_at}
use borrow.Author.Tests.{eq-eqb, ne_eqb, not-true}
use Rattle.be.specs.Bytes.{be, field}
use Rattle.edition.specs.declared.Edition.{Edition}
use Rattle.edition.specs.Edition.{entry_size, Sane}
use Rattle.dir_block_rules.specs.Record.{Rec, size, is_gap, is_entry, gap_start, gaps, entries}
use Rattle.dir_block_rules.specs.Block.{records, slots, data_end, count_of}
use Rattle.dir_block_rules.specs.Lookup.{sought, seek, name_at, candidate}
use Rattle.name.specs.Name.{hash_of, same_name}
use Rattle.dir_block_rules.specs.Change.{gap_start_before, gap_end_after}
use Rattle.be.proofs.Bools.{and_right}
use Rattle.dir_block_rules.proofs.CutJoin.{Laid, join, laid_front}
use Rattle.edition.proofs.Sizes.{entry_size_least}
use Rattle.dir_block_rules.proofs.GapsApart.{last_gap?}
use Rattle.be.proofs.Splits.{Split}
use Rattle.dir_block_rules.proofs.SearchFinds.{First, seek_first, seek_hit}
use Rattle.name.proofs.Same.{same_name_length}
use Rattle.dir_block_rules.proofs.AcceptedParts.{keep_find, FoundIn, place_of}
use Rattle.dir_block_rules.proofs.LookupFinds.{spot, at_spot}
use Rattle.dir_block_rules.proofs.RemoveWrites.{before_gap, before_entry, after_gap, after_entry, after_end}
use Rattle.dir_block_rules.proofs.RemoveAccepted.{snoc}
use Rattle.dir_block_laws.specs.Tiled.{Tiled, Ready}
use Rattle.dir_block_laws.specs.Pass.{EntryAt, Place}
use Rattle.dir_block_laws.proofs.RecordSteps.{Here, here, none_left, laid_all, end_fits}
use Rattle.dir_block_laws.proofs.RecordPass.{says_gap, says_entry}
use Rattle.dir_block_laws.proofs.SlotSearch.{tiled, length_slots}

module _ (e : Edition) (b : List ℕ) (t : Tiled e b) where
  -- the tag of a record stands in its last two bytes
  pub tag_at : (xs : List Rec) (y : Rec) (ys : List Rec) (o : ℕ) → Here e b t xs y ys o → field (o + size y - 2) 2 b ≡ o
  tag_at xs y ys o v =
      let n : 8 ≤ size y = v.is_whole.least in
      let p : o + (size y - 2) ≡ o + size y - 2 = omega arith in
      let d : drop (o + size y - 2) b ≡ drop (size y - 2) y.raw ++ v.rest =
      ap (λ (k : ℕ). drop k b) (sym p) ∙ sym (drop-drop (size y - 2) o b) ∙ ap (drop (size y - 2)) v.raw_is ∙ drop-append-le (size y - 2) y.raw v.rest (omega arith) in
      ap (λ (l : List ℕ). be (take 2 l)) d ∙ ap be (take_at (drop (size y - 2) y.raw) v.rest 2 (simp length-drop (omega arith))) ∙ v.is_whole.tagged ∙ v.off_is

  -- before a place
  module _ (o : ℕ) (w : Place e b o) where
    -- the record before, if there is one
    prior : e.header < o → (xs : List Rec) × (x : Rec) × (w.before ≡ xs ++ (x ∷ [])) × (last_gap? false w.before ≡ is_gap x)
    prior h = go w.before refl
      where
        go : (ws : List Rec) → w.before ≡ ws → (xs : List Rec) × (x : Rec) × (w.before ≡ xs ++ (x ∷ [])) × (last_gap? false w.before ≡ is_gap x)
        go [] y = absurd (omega (arith, w.place, ap (λ (m : List Rec). length (join m)) y))
        go (z ∷ zs) y =
            let r = snoc z zs in
            (r.0.before, r.0.here, y ∙ r.0.is ∙ ap (λ (m : List Rec). r.0.before ++ (r.0.here ∷ m)) r.1, ap (last_gap? false) y ∙ r.2 false)

    -- its place, and what it says
    pub record Prior (p : ℕ) : Type 0 where
      pub xs : List Rec
      pub x : Rec
      pub is : w.before ≡ xs ++ (x ∷ [])
      pub last : last_gap? false w.before ≡ is_gap x
      pub at_it : Here e b t xs x w.behind p
      pub ends : p + size x ≡ o
      pub from : e.header + length (join xs) ≡ p

    pub prior_at : (p : ℕ) → e.header < o → field (o - 2) 2 b ≡ p → Prior p
    prior_at p h f =
        let r = prior h in
        let k : ℕ = e.header + length (join r.0) in
        let q : records e b ≡ r.0 ++ (r.1 ∷ w.behind) = w.all ∙ ap (λ (m : List Rec). m ++ w.behind) r.2 ∙ append_assoc r.0 (r.1 ∷ []) w.behind in
        let v : Here e b t r.0 r.1 w.behind k = here e b t r.0 r.1 w.behind k q refl in
        let en : k + size r.1 ≡ o = sym v.place ∙ ap (λ (m : List Rec). e.header + length (join m)) (sym r.2) ∙ w.place in
        let kp : k ≡ p = sym (tag_at r.0 r.1 w.behind k v) ∙ ap (λ (m : ℕ). field (m - 2) 2 b) en ∙ f in
        record {
          xs = r.0;
          x = r.1;
          is = r.2;
          last = r.3;
          at_it = subst (λ (m : ℕ). Here e b t r.0 r.1 w.behind m) kp v;
          ends = ap (λ (m : ℕ). m + size r.1) (sym kp) ∙ en;
          from = kp;
        }

  module _ (o : ℕ) (w : EntryAt e b o) where
    at_entry : Here e b t w.before w.entry w.behind o
    at_entry = here e b t w.before w.entry w.behind o w.all w.place

    pub entry_long : size w.entry ≡ entry_size e (get_or b (o + 8) 0)
    entry_long = at_entry.says_is ∙ says_entry e b o (sym at_entry.gap_is ∙ w.no_gap)

    pub entry_inside : o + size w.entry ≤ data_end b
    entry_inside = at_entry.fits

    pub entry_least : e.header ≤ o
    entry_least = omega (arith, w.place)

    all_two : records e b ≡ (w.before ++ (w.entry ∷ [])) ++ w.behind
    all_two = w.all ∙ sym (append_assoc w.before (w.entry ∷ []) w.behind)

    -- behind the entry, up to u
    module _ (u : ℕ) (q : o + size w.entry ≡ u) where
      place_u : e.header + length (join (w.before ++ (w.entry ∷ []))) ≡ u
      place_u = at_entry.place ∙ q

      as_read : gap_end_after u (gaps (records e b)) ≡ gap_end_after (e.header + length (join (w.before ++ (w.entry ∷ [])))) (gaps ((w.before ++ (w.entry ∷ [])) ++ w.behind))
      as_read = ap₂ (λ (k : ℕ) (l : List Rec). gap_end_after k (gaps l)) (sym place_u) all_two

      laid_two : Laid e e.header ((w.before ++ (w.entry ∷ [])) ++ w.behind)
      laid_two = subst (λ (l : List Rec). Laid e e.header l) all_two (laid_all e b t)

      pub behind_none : data_end b ≤ u → gap_end_after u (gaps (records e b)) ≡ u
      behind_none h = go w.behind refl
        where
          go : (zs : List Rec) → w.behind ≡ zs → gap_end_after u (gaps (records e b)) ≡ u
          go [] z =
              let l : (w.before ++ (w.entry ∷ [])) ++ w.behind ≡ w.before ++ (w.entry ∷ []) = ap (λ (m : List Rec). (w.before ++ (w.entry ∷ [])) ++ m) z ∙ append-nil (w.before ++ (w.entry ∷ [])) in
              as_read ∙ ap (λ (m : List Rec). gap_end_after (e.header + length (join (w.before ++ (w.entry ∷ [])))) (gaps m)) l
              ∙ after_end e e.header (w.before ++ (w.entry ∷ [])) (subst (λ (m : List Rec). Laid e e.header m) l laid_two) ∙ place_u
          go (z ∷ zs) y =
              let v : Here e b t (w.before ++ (w.entry ∷ [])) z zs u =
              here e b t (w.before ++ (w.entry ∷ [])) z zs u (all_two ∙ ap (λ (m : List Rec). (w.before ++ (w.entry ∷ [])) ++ m) y) place_u in
              absurd (omega (arith, v.fits, v.is_whole.least))

      next_record : u < data_end b → (z : Rec) × (zs : List Rec) × (w.behind ≡ z ∷ zs) × Here e b t (w.before ++ (w.entry ∷ [])) z zs u
      next_record h = go w.behind refl
        where
          go : (zs : List Rec) → w.behind ≡ zs → (z : Rec) × (zs : List Rec) × (w.behind ≡ z ∷ zs) × Here e b t (w.before ++ (w.entry ∷ [])) z zs u
          go [] y = absurd (omega (arith, none_left e b t (w.before ++ (w.entry ∷ [])) u (all_two ∙ ap (λ (m : List Rec). (w.before ++ (w.entry ∷ [])) ++ m) y) place_u))
          go (z ∷ zs) y = (z, zs, y, here e b t (w.before ++ (w.entry ∷ [])) z zs u (all_two ∙ ap (λ (m : List Rec). (w.before ++ (w.entry ∷ [])) ++ m) y) place_u)

      pub behind_gap : u < data_end b → field u 2 b ≡ 65535 → (gap_end_after u (gaps (records e b)) ≡ u + field (u + 2) 2 b) × (u + field (u + 2) 2 b ≤ data_end b)
      behind_gap h g =
          let r = next_record h in
          let v : Here e b t (w.before ++ (w.entry ∷ [])) r.0 r.1 u = r.3 in
          let gs : gap_start (drop u b) ≡ true = eq-eqb (field u 2 b) 65535 g in
          let l : (w.before ++ (w.entry ∷ [])) ++ w.behind ≡ (w.before ++ (w.entry ∷ [])) ++ (r.0 ∷ r.1) = ap (λ (m : List Rec). (w.before ++ (w.entry ∷ [])) ++ m) r.2 in
          let s : size r.0 ≡ field (u + 2) 2 b = v.says_is ∙ says_gap e b u gs in (
            as_read ∙ ap (λ (m : List Rec). gap_end_after (e.header + length (join (w.before ++ (w.entry ∷ [])))) (gaps m)) l
                ∙ after_gap e e.header (w.before ++ (w.entry ∷ [])) r.0 r.1 (subst (λ (m : List Rec). Laid e e.header m) l laid_two) (v.gap_is ∙ gs)
                ∙ ap₂ (λ (x y : ℕ). x + y) place_u s,
            omega (arith, v.fits, s),
          )

      pub behind_entry : u < data_end b → (field u 2 b ≡ 65535 → ⊥) → gap_end_after u (gaps (records e b)) ≡ u
      behind_entry h g =
          let r = next_record h in
          let v : Here e b t (w.before ++ (w.entry ∷ [])) r.0 r.1 u = r.3 in
          let gs : gap_start (drop u b) ≡ false = ne_eqb (field u 2 b) 65535 g in
          let l : (w.before ++ (w.entry ∷ [])) ++ w.behind ≡ (w.before ++ (w.entry ∷ [])) ++ (r.0 ∷ r.1) = ap (λ (m : List Rec). (w.before ++ (w.entry ∷ [])) ++ m) r.2 in
          as_read ∙ ap (λ (m : List Rec). gap_end_after (e.header + length (join (w.before ++ (w.entry ∷ [])))) (gaps m)) l
          ∙ after_entry e e.header (w.before ++ (w.entry ∷ [])) r.0 r.1 (subst (λ (m : List Rec). Laid e e.header m) l laid_two) (v.gap_is ∙ gs) ∙ place_u

    -- before the entry
    before_read : gap_start_before o (gaps (records e b)) ≡ gap_start_before (e.header + length (join w.before)) (gaps (w.before ++ (w.entry ∷ w.behind)))
    before_read = ap₂ (λ (k : ℕ) (l : List Rec). gap_start_before k (gaps l)) (sym w.place) w.all

    abbrev pub entry_place : Place e b o
    entry_place = record { before = w.before; behind = w.entry ∷ w.behind; all = w.all; place = w.place }

    laid_one : Laid e e.header (w.before ++ (w.entry ∷ w.behind))
    laid_one = subst (λ (l : List Rec). Laid e e.header l) w.all (laid_all e b t)

    pub before_none : o ≡ e.header → gap_start_before o (gaps (records e b)) ≡ o
    before_none h = go w.before refl
      where
        go : (ws : List Rec) → w.before ≡ ws → gap_start_before o (gaps (records e b)) ≡ o
        go [] y = before_read ∙ before_entry e e.header w.before (w.entry ∷ w.behind) laid_one (ap (last_gap? false) y) ∙ w.place
        go (z ∷ zs) y =
            let l : Laid e e.header (z ∷ zs) = subst (λ (m : List Rec). Laid e e.header m) y (laid_front e e.header w.before (w.entry ∷ w.behind) laid_one) in
            absurd (omega (arith, w.place, ap (λ (m : List Rec). length (join m)) y, length-append z.raw (join zs), l.1.least))

    pub before_is_gap : (p : ℕ) → Prior o entry_place p → field p 2 b ≡ 65535 → gap_start_before o (gaps (records e b)) ≡ p
    before_is_gap p r g =
        let gp : is_gap r.x ≡ true = r.at_it.gap_is ∙ eq-eqb (field p 2 b) 65535 g in
        let l : records e b ≡ r.xs ++ (r.x ∷ (w.entry ∷ w.behind)) = r.at_it.is in
        let en : e.header + length (join r.xs) + size r.x ≡ o = ap (λ (m : ℕ). m + size r.x) r.from ∙ r.ends in
        ap₂ (λ (k : ℕ) (m : List Rec). gap_start_before k (gaps m)) (sym en) l
        ∙ before_gap e e.header r.xs r.x (w.entry ∷ w.behind) (subst (λ (m : List Rec). Laid e e.header m) l (laid_all e b t)) gp ∙ r.from

    pub before_is_entry : (p : ℕ) → Prior o entry_place p → (field p 2 b ≡ 65535 → ⊥) → gap_start_before o (gaps (records e b)) ≡ o
    before_is_entry p r g =
        let gp : is_gap r.x ≡ false = r.at_it.gap_is ∙ ne_eqb (field p 2 b) 65535 g in
        before_read ∙ before_entry e e.header w.before (w.entry ∷ w.behind) laid_one (r.last ∙ gp) ∙ w.place

-- what a search finds is an entry, and its slot is in the index
pub found_entry : (e : Edition) (sane : Sane e) (b n : List ℕ) (r : Ready e b) → (sought e b n).hit ≡ true → EntryAt e b (sought e b n).at
found_entry e sane b n r h =
    let t : Split (entries (records e b)) = spot e sane b r.are_bytes r.ok n h in
    let k : FoundIn is_entry (records e b) t.before t.here t.behind = keep_find is_entry (records e b) t.before t.here t.behind t.is in
    let l : Laid e (e.header + length (join k.before)) (t.here ∷ k.behind) = place_of e sane b r.are_bytes r.ok k.before (t.here ∷ []) k.behind k.is in
    record {
      before = k.before;
      entry = t.here;
      behind = k.behind;
      all = k.is;
      place = sym l.0 ∙ sym (at_spot e sane b r.are_bytes r.ok n h);
      no_gap = not-true (is_gap t.here) k.passes;
    }

pub found_index : (e : Edition) (b n : List ℕ) → (sought e b n).hit ≡ true → (sought e b n).index < length (slots b)
unfolding sought
found_index e b n h =
    let f : First e b n (hash_of e n) 0 (slots b) (seek e b n (hash_of e n) 0 0 (slots b)) =
    seek_first e b n (hash_of e n) 0 0 (slots b) (sym (seek_hit e b n (hash_of e n) 0 0 (slots b)) ∙ h) in
    let l : length (slots b) ≡ length f.split.before + suc (length f.split.behind) = ap length f.split.is ∙ length-append f.split.before (f.split.here ∷ f.split.behind) in
    omega (arith, f.index_is, l)

-- the entry found has the name
pub found_long : (e : Edition) (sane : Sane e) (b n : List ℕ) (r : Ready e b) → (sought e b n).hit ≡ true → get_or b ((sought e b n).at + 8) 0 ≡ length n
unfolding sought
found_long e sane b n r h =
    let f : First e b n (hash_of e n) 0 (slots b) (seek e b n (hash_of e n) 0 0 (slots b)) =
    seek_first e b n (hash_of e n) 0 0 (slots b) (sym (seek_hit e b n (hash_of e n) 0 0 (slots b)) ∙ h) in
    let a : ℕ = (sought e b n).at in
    let w : EntryAt e b (sought e b n).at = found_entry e sane b n r h in
    let q : length n ≡ length (name_at b (sought e b n).at) =
    same_name_length e n (name_at b (8 * f.split.here.addr)) (and_right (candidate (hash_of e n) f.split.here) (same_name e n (name_at b (8 * f.split.here.addr))) f.matches) ∙ ap (λ (o : ℕ). length (name_at b o)) (sym f.at_is) in
    let i : (sought e b n).at + 11 + get_or b ((sought e b n).at + 8) 0 ≤ length b =
    omega (arith, entry_long e b (tiled e b r) (sought e b n).at w, entry_inside e b (tiled e b r) (sought e b n).at w, entry_size_least e (get_or b ((sought e b n).at + 8) 0), end_fits e b (tiled e b r)) in
    let l : length (name_at b (sought e b n).at) ≡ get_or b ((sought e b n).at + 8) 0 = simp (length-take, length-drop) (omega arith) in
    sym l ∙ sym q

pub entry_found : (e : Edition) (sane : Sane e) (b n : List ℕ) (at : ℕ) (r : Ready e b) → (sought e b n).hit ≡ true → (sought e b n).at ≡ at → EntryAt e b at
entry_found e sane b n at r h q = subst (λ (o : ℕ). EntryAt e b o) q (found_entry e sane b n r h)

pub long_found : (e : Edition) (sane : Sane e) (b n : List ℕ) (at : ℕ) (r : Ready e b) → (sought e b n).hit ≡ true → (sought e b n).at ≡ at → get_or b (at + 8) 0 ≡ length n
long_found e sane b n at r h q = subst (λ (o : ℕ). get_or b (o + 8) 0 ≡ length n) q (found_long e sane b n r h)

-- the entry and the slot lie in the block
pub found_room : (e : Edition) (sane : Sane e) (b n : List ℕ) (end place at : ℕ) (r : Ready e b) → (sought e b n).hit ≡ true → (sought e b n).index ≡ place → (sought e b n).at ≡ at → end ≡ data_end b
    → (e.header ≤ at) × ((at + 11 ≤ end) × ((at + entry_size e (get_or b (at + 8) 0) ≤ end) × ((end + 8 * place + 16 ≤ length b) × (length b ≤ 65536))))
found_room e sane b n end place at r h p q x =
    let t : Tiled e b = tiled e b r in
    let w : EntryAt e b at = entry_found e sane b n at r h q in
    let l : length (slots b) ≡ count_of b = length_slots e b r in (
      entry_least e b (tiled e b r) at w,
      (
        omega (arith, entry_long e b (tiled e b r) at w, entry_inside e b (tiled e b r) at w, entry_size_least e (get_or b (at + 8) 0)),
        (
          omega (arith, entry_long e b (tiled e b r) at w, entry_inside e b (tiled e b r) at w),
          (omega (arith, found_index e b n h, l, end_fits e b (tiled e b r), p), (tiled e b r).short),
        ),
      ),
    )
