-- What an insert answers, test by test, and the directory with the new entry, from its tag and its place.
-- Assumes nothing.
use Prim.Native.Nat.{ℕ, ◌+◌, ◌*◌, ◌≤◌, ◌<◌}
use native.Mathlib.Omega.{arith}
use mathlib.Core.Bool.{Bool, true, false, not, cond}
use mathlib.Core.Path.{◌≡◌, refl, sym, ◌∙◌, ap, ap₂, subst}
use mathlib.Core.List.{List, [], ◌∷◌}
use lib.Dec.{ltb}
use lib.ListN.{length, length-append}
use borrow.Author.Tests.{le-leb, lt-leb, not-true, not-false}
use Rattle.refusal.specs.Refusal.{ASKED, FIXED, EXISTS, NOROOM}
use Rattle.be.specs.Lists.{tally, every}
use Rattle.be.specs.Bytes.{byte, put}
use Rattle.be.proofs.Bools.{by_cases, and_left, every_head, every_tail}
use Rattle.edition.specs.declared.Edition.{Edition}
use Rattle.dir.specs.declared.Target.{Target}
use Rattle.dir.specs.Target.{legal_target, kept_of}
use Rattle.name.specs.Name.{legal_name, fixed_name}
use Rattle.name.proofs.Legality.{legal_bounds}
use Rattle.std.specs.Prelude.{Option, Some, None}
use Rattle.dir_sf.specs.Entry.{SfEntry, entry, width_of, entry_bytes, entries_bytes, is_wide, wides_of}
use Rattle.dir_sf.specs.Fork.{laid, lay, count_of, stored_wides, parent, entries, holds, name_ok, names_ok}
use Rattle.dir_sf.specs.Change.{placed, tag_for, put_by, inserted, has_room, insert_request}
use Rattle.dir_sf.specs.Inner.{Readable}
use Rattle.dir_sf_edit.specs.Inner.{rank, with_nth}
use Rattle.dir_sf.proofs.Leaves.{narrow, broad, width_least}
use Rattle.dir_sf.proofs.Listed.{count_is}
use Rattle.dir_sf_edit.proofs.ReadBack.{length_entry_bytes, length_lay}
use Rattle.dir_sf_edit.proofs.Inserts.{length_placed, tally_placed}

-- a new entry in tag order: where as many stand before it as its tag says
placed_nth : (y : SfEntry) (xs : List SfEntry) → placed y xs ≡ with_nth (rank y.tag xs) y xs
unfolding placed rank with_nth
placed_nth y [] = refl
placed_nth y (x ∷ xs) =
    by_cases (ltb y.tag x.tag) (λ q. rw q refl) (λ q. rw q (ap (λ (l : List SfEntry). x ∷ l) (placed_nth y xs)))

rank_le : (t : ℕ) (xs : List SfEntry) → rank t xs ≤ length xs
unfolding rank
rank_le t [] = omega arith
rank_le t (x ∷ xs) = by_cases (ltb t x.tag) (λ q. rw q (omega arith)) (λ q. rw q (omega (arith, rank_le t xs)))

pub rank_in : (e : Edition) (u : List ℕ) (t i : ℕ) → i ≡ rank t (entries e u) → i ≤ count_of u
rank_in e u t i h = omega (arith, rank_le t (entries e u), count_is e u)

tally_le : {A : Type 0} (p : A → Bool) (xs : List A) → tally p xs ≤ length xs
tally_le p [] = omega arith
tally_le p (x ∷ xs) = by_cases (p x) (λ q. rw q (omega (arith, tally_le p xs))) (λ q. rw q (omega (arith, tally_le p xs)))

pub wides_le : (p : ℕ) (xs : List SfEntry) → wides_of p xs ≤ length xs + 1
unfolding wides_of
wides_le p xs = by_cases (is_wide p) (λ q. rw q (omega (arith, tally_le (λ x. is_wide x.target.inode) xs))) (λ q. rw q (omega (arith, tally_le (λ x. is_wide x.target.inode) xs)))

-- ---- the size with the new entry in

-- one wide number more, if the new one is wide
pub placed_wide : (p : ℕ) (y : SfEntry) (xs : List SfEntry) → wides_of p (placed y xs) ≡ cond (is_wide y.target.inode) 1 0 + wides_of p xs
unfolding wides_of
placed_wide p y xs = omega (arith, tally_placed (λ x. is_wide x.target.inode) y xs)

pub placed_bytes : (e : Edition) (w : ℕ) (y : SfEntry) (xs : List SfEntry) → length (entries_bytes e w (placed y xs)) ≡ length (entry_bytes e w y) + length (entries_bytes e w xs)
unfolding placed
placed_bytes e w y [] = simp length-append refl
placed_bytes e w y (x ∷ xs) =
    by_cases (ltb y.tag x.tag)
    (λ q. rw q (simp length-append (omega arith)))
    (λ q. rw q (simp length-append (omega (arith, placed_bytes e w y xs))))

wider : (e : Edition) (xs : List SfEntry) → length (entries_bytes e 8 xs) ≡ length (entries_bytes e 4 xs) + 4 * length xs
wider e [] = omega arith
wider e (x ∷ xs) = simp length-append (omega (arith, wider e xs, length_entry_bytes e 8 x, length_entry_bytes e 4 x))

module _ (e : Edition) (u name : List ℕ) (r : Readable e u) (whole : length (lay e (parent u) (entries e u)) ≡ length u) (wides one tag : ℕ) (to : Target) (m s : ℕ)
    (b : wides ≡ byte 1 u) (g : one ≡ cond (is_wide to.inode) 1 0) (f : m ≡ e.ftype + width_of (wides + one)) (n : s ≡ length name) where
  before : wides_of (parent u) (entries e u) ≡ wides
  unfolding stored_wides
  before = sym r.wides ∙ sym b

  later : wides_of (parent u) (placed (entry tag name to) (entries e u)) ≡ wides + one
  later = omega (arith, placed_wide (parent u) (entry tag name to) (entries e u), before)

  old_long : 2 + width_of wides + length (entries_bytes e (width_of wides) (entries e u)) ≡ length u
  old_long =
      let l : length (lay e (parent u) (entries e u)) ≡ 2 + width_of wides + length (entries_bytes e (width_of wides) (entries e u)) =
      length_lay e (parent u) (entries e u) ∙ ap (λ (k : ℕ). 2 + width_of k + length (entries_bytes e (width_of k) (entries e u))) before in
      omega arith

  new_long : length (lay e (parent u) (placed (entry tag name to) (entries e u)))
      ≡ 2 + width_of (wides + one) + (3 + length name + (e.ftype + width_of (wides + one)) + length (entries_bytes e (width_of (wides + one)) (entries e u)))
  new_long =
      let v : ℕ = width_of (wides + one) in
      let l : length (lay e (parent u) (placed (entry tag name to) (entries e u))) ≡ 2 + v + length (entries_bytes e v (placed (entry tag name to) (entries e u))) =
      length_lay e (parent u) (placed (entry tag name to) (entries e u)) ∙ ap (λ (k : ℕ). 2 + width_of k + length (entries_bytes e (width_of k) (placed (entry tag name to) (entries e u)))) later in
      omega (arith, placed_bytes e v (entry tag name to) (entries e u), length_entry_bytes e v (entry tag name to))

  same_width : width_of (wides + one) ≡ width_of wides → length u + 3 + s + m ≡ length (lay e (parent u) (placed (entry tag name to) (entries e u)))
  same_width h =
      let k : length (entries_bytes e (width_of (wides + one)) (entries e u)) ≡ length (entries_bytes e (width_of wides) (entries e u)) =
      ap (λ (z : ℕ). length (entries_bytes e z (entries e u))) h in
      omega (arith, old_long, new_long)

  pub grown_wide : (wides ≡ 0 → ⊥) → length u + 3 + s + m ≡ length (lay e (parent u) (placed (entry tag name to) (entries e u)))
  grown_wide h = same_width (sym (broad (wides + one) (λ z. h (omega arith))) ∙ broad wides h)

  pub grown_narrow : wides ≡ 0 → wides + one ≡ 0 → length u + 3 + s + m ≡ length (lay e (parent u) (placed (entry tag name to) (entries e u)))
  grown_narrow h k = same_width (sym (narrow (wides + one) k) ∙ narrow wides h)

  pub grown_first : (c : ℕ) → wides ≡ 0 → (wides + one ≡ 0 → ⊥) → c ≡ byte 0 u → length u + 3 + s + m + 4 * (c + 1) ≡ length (lay e (parent u) (placed (entry tag name to) (entries e u)))
  unfolding count_of
  grown_first c h k a =
      let v : 8 ≡ width_of (wides + one) = broad (wides + one) k in
      let w : 4 ≡ width_of wides = narrow wides h in
      let p : length (entries_bytes e (width_of (wides + one)) (entries e u)) ≡ length (entries_bytes e 8 (entries e u)) =
      ap (λ (z : ℕ). length (entries_bytes e z (entries e u))) (sym v) in
      let q : length (entries_bytes e (width_of wides) (entries e u)) ≡ length (entries_bytes e 4 (entries e u)) =
      ap (λ (z : ℕ). length (entries_bytes e z (entries e u))) (sym w) in
      omega (arith, old_long, new_long, wider e (entries e u), count_is e u)

-- ---- the answer

pub short_name : (e : Edition) (n : List ℕ) (t : Bool) → t ≡ legal_name e n → not t ≡ false → length n < 256
short_name e n t h f = omega (arith, legal_bounds e n (sym h ∙ not-false t f))

module _ (e : Edition) (told fork : ℕ) (n : List ℕ) (to : Target) (p : ℕ) (xs : List SfEntry) (t₁ : Bool) (h₁ : t₁ ≡ legal_name e n) where
  pub insert_name : not t₁ ≡ true → ◌≡◌ {A = ℕ} ASKED (insert_request e told fork n to p xs)
  unfolding insert_request
  insert_name f = sym (rw (sym h₁ ∙ not-true t₁ f) refl)

  module _ (g₁ : not t₁ ≡ false) (t₂ : Bool) (h₂ : t₂ ≡ legal_target e to) where
    pub insert_asked : not t₂ ≡ true → ◌≡◌ {A = ℕ} ASKED (insert_request e told fork n to p xs)
    unfolding insert_request
    insert_asked f = sym (rw (sym h₁ ∙ not-false t₁ g₁, sym h₂ ∙ not-true t₂ f) refl)

    module _ (g₂ : not t₂ ≡ false) (t₃ : Bool) (h₃ : t₃ ≡ fixed_name n) where
      pub insert_fixed : t₃ ≡ true → ◌≡◌ {A = ℕ} FIXED (insert_request e told fork n to p xs)
      unfolding insert_request
      insert_fixed f = sym (rw (sym h₁ ∙ not-false t₁ g₁, sym h₂ ∙ not-false t₂ g₂, sym h₃ ∙ f) refl)

      module _ (g₃ : t₃ ≡ false) (t₄ : Bool) (h₄ : t₄ ≡ holds e n xs) where
        pub insert_exists : t₄ ≡ true → ◌≡◌ {A = ℕ} EXISTS (insert_request e told fork n to p xs)
        unfolding insert_request
        insert_exists f = sym (rw (sym h₁ ∙ not-false t₁ g₁, sym h₂ ∙ not-false t₂ g₂, sym h₃ ∙ g₃, sym h₄ ∙ f) refl)

        module _ (g₄ : t₄ ≡ false) where
          last : insert_request e told fork n to p xs ≡ cond (has_room e told fork n to p xs) 0 NOROOM
          unfolding insert_request
          last = rw (sym h₁ ∙ not-false t₁ g₁, sym h₂ ∙ not-false t₂ g₂, sym h₃ ∙ g₃, sym h₄ ∙ g₄) refl

          module _ (s : ℕ) (free : Option ℕ) (l : s ≡ length n) (ht : free ≡ tag_for e told s xs) where
            tag_is : tag_for e told (length n) xs ≡ free
            tag_is = ap (λ (z : ℕ). tag_for e told z xs) (sym l) ∙ sym ht

            pub insert_no_tag : free ≡ None → ◌≡◌ {A = ℕ} NOROOM (insert_request e told fork n to p xs)
            unfolding has_room
            insert_no_tag f = sym (last ∙ rw (tag_is ∙ f) refl)

            module _ (tag : ℕ) (f : free ≡ Some tag) (x : Target) (hx : x ≡ kept_of e to) (z : ℕ) (hz : z ≡ length (lay e p (placed (entry tag n x) xs))) where
              size_is : length (lay e p (inserted e told n to xs)) ≡ z
              unfolding inserted put_by
              size_is = ap₂ (λ (k : Option ℕ) (y : Target). length (lay e p (put_by k n y xs))) (tag_is ∙ f) (sym hx) ∙ sym hz

              pub insert_no_fit : fork < z → ◌≡◌ {A = ℕ} NOROOM (insert_request e told fork n to p xs)
              unfolding has_room
              insert_no_fit h = sym (last ∙ rw (tag_is ∙ f, size_is, lt-leb z fork h) refl)

              pub insert_done : z ≤ fork → ◌≡◌ {A = ℕ} 0 (insert_request e told fork n to p xs)
              unfolding has_room
              insert_done h = sym (last ∙ rw (tag_is ∙ f, size_is, le-leb z fork h) refl)

-- ---- the directory with the entry in

module _ (e : Edition) (u name : List ℕ) (r : Readable e u) (told wides one s tag : ℕ) (free : Option ℕ) (to x : Target) (index : ℕ) (b : wides ≡ byte 1 u) (g : one ≡ cond (is_wide to.inode) 1 0) (hx : x ≡ kept_of e to)
    (n : s ≡ length name) (ht : free ≡ tag_for e told s (entries e u)) (hf : free ≡ Some tag) (hi : index ≡ rank tag (entries e u)) where
  is_placed : inserted e told name to (entries e u) ≡ placed (entry tag name (kept_of e to)) (entries e u)
  unfolding inserted put_by
  is_placed = ap (λ (f : Option ℕ). put_by f name (kept_of e to) (entries e u)) (ap (λ (z : ℕ). tag_for e told z (entries e u)) (sym n) ∙ sym ht ∙ hf)

  new_is : inserted e told name to (entries e u) ≡ with_nth index (entry tag name x) (entries e u)
  new_is =
      is_placed ∙ ap (λ (y : Target). placed (entry tag name y) (entries e u)) (sym hx)
      ∙ placed_nth (entry tag name x) (entries e u) ∙ ap (λ (z : ℕ). with_nth z (entry tag name x) (entries e u)) (sym hi)

  new_count : length (inserted e told name to (entries e u)) ≡ count_of u + 1
  new_count = ap length is_placed ∙ length_placed _ (entries e u) ∙ omega (arith, count_is e u)

  new_wides : wides_of (parent u) (inserted e told name to (entries e u)) ≡ wides + one
  unfolding stored_wides
  new_wides = ap (wides_of (parent u)) is_placed ∙ omega (arith, placed_wide (parent u) (entry tag name (kept_of e to)) (entries e u), r.wides)

  grow_is : laid e (count_of u + 1) (wides + one) (parent u) (with_nth index (entry tag name x) (entries e u)) ≡ lay e (parent u) (inserted e told name to (entries e u))
  unfolding lay
  grow_is =
      sym (ap₂ (λ (c₁ c₂ : ℕ). laid e c₁ c₂ (parent u) (inserted e told name to (entries e u))) new_count new_wides
      ∙ ap (laid e (count_of u + 1) (wides + one) (parent u)) new_is)

  pub grow_room : (T : ℕ) → length (lay e (parent u) (inserted e told name to (entries e u))) ≤ T
      → length (laid e (count_of u + 1) (wides + one) (parent u) (with_nth index (entry tag name x) (entries e u))) ≤ T
  grow_room T h = subst (λ (l : List ℕ). length l ≤ T) (sym grow_is) h

  pub grow_bytes : (t t₁ : List ℕ) → t₁ ≡ put t 0 (laid e (count_of u + 1) (wides + one) (parent u) (with_nth index (entry tag name x) (entries e u)))
      → t₁ ≡ put t 0 (lay e (parent u) (inserted e told name to (entries e u)))
  grow_bytes t t₁ h = h ∙ ap (put t 0) grow_is

  pub grow_size : (z : ℕ) → z ≡ length (laid e (count_of u + 1) (wides + one) (parent u) (with_nth index (entry tag name x) (entries e u)))
      → z ≡ length (lay e (parent u) (inserted e told name to (entries e u)))
  grow_size z h = h ∙ ap length grow_is

pub wides_small : (e : Edition) (u : List ℕ) (wides one : ℕ) → Readable e u → wides ≡ byte 1 u → one ≤ 1 → count_of u < 254 → wides + one < 256
unfolding stored_wides
wides_small e u wides one r b l h = omega (arith, r.wides, wides_le (parent u) (entries e u), count_is e u)

-- ---- few entries fit a fork

few : (e : Edition) (w : ℕ) (xs : List SfEntry) → 4 ≤ w → every (name_ok e) xs ≡ true → 8 * length xs ≤ length (entries_bytes e w xs)
few e w [] h k = omega arith
few e w (x ∷ xs) h k =
    let l = legal_bounds e x.name (and_left (legal_name e x.name) _ (every_head (name_ok e) x xs k)) in
    simp length-append (omega (arith, length_entry_bytes e w x, few e w xs h (every_tail (name_ok e) x xs k)))

pub lay_few : (e : Edition) (p : ℕ) (xs : List SfEntry) → names_ok e xs ≡ true → 8 * length xs ≤ length (lay e p xs)
unfolding names_ok
lay_few e p xs k = omega (arith, length_lay e p xs, few e (width_of (wides_of p xs)) xs (width_least (wides_of p xs)) k)
