-- The entry asked for and the others.
-- Assumes nothing.
use Prim.Native.Nat.{ℕ, zero, suc, ◌+◌, ◌≤◌, ◌<◌}
use native.Mathlib.Omega.{arith}
use mathlib.Core.Bool.{Bool, true, false, not, ◌||◌}
use mathlib.Core.Path.{◌≡◌, refl, sym, ap, subst}
use mathlib.Core.List.{List, [], ◌∷◌, ◌++◌}
use lib.Dec.{eqb}
use lib.ListN.{length, length-append}
use borrow.Author.Tests.{eq-eqb, eqb-true, not-true}
use Rattle.be.specs.Lists.{every, some_of, same}
use Rattle.be.proofs.Bools.{by_cases, and_left, and_right, and_both, clash, neither, or_false}
use Rattle.records.specs.Records.{start, places}
use Rattle.records.proofs.Starts.{start_above}
use Rattle.name.proofs.Same.{same_eq, same_refl}
use Rattle.attr_sf.specs.Entry.{Entry, entry, is_key, distinct, others, entry_bytes, run}
use Rattle.attr_sf.specs.Fork.{size_at, entry_at, entries, seek}
use Rattle.attr_sf.proofs.StoredBytes.{stored_size}

-- an entry that has the name and the flags
pub key_is : (name : List ℕ) (flags : ℕ) (e : Entry) → is_key name flags e ≡ true → (flags ≡ e.flags) × (name ≡ e.name)
unfolding is_key
key_is name flags e h = (eqb-true _ _ (and_left _ _ h), same_eq _ _ (and_right (eqb flags e.flags) _ h))

pub key_own : (flags : ℕ) (name value : List ℕ) → is_key name flags (entry flags name value) ≡ true
unfolding is_key
key_own flags name value = rw (eq-eqb flags flags refl, same_refl name)

module _ (name : List ℕ) (flags : ℕ) where
  -- where none has them, the others are all
  pub others_all : (es : List Entry) → some_of (is_key name flags) es ≡ false → others name flags es ≡ es
  unfolding others
  others_all [] h = refl
  others_all (e ∷ es) h =
      rw ((neither (is_key name flags e) _ h).0, others_all es (neither (is_key name flags e) _ h).1)

  -- none of the others has them
  pub others_none : (es : List Entry) → some_of (is_key name flags) (others name flags es) ≡ false
  unfolding others
  others_none [] = refl
  others_none (e ∷ es) =
      by_cases (is_key name flags e) (λ q. rw q (others_none es)) (λ q. rw (q, q) (others_none es))

  -- a test that each entry passes, each of the others passes
  pub others_every : (p : Entry → Bool) (es : List Entry) → every p es ≡ true → every p (others name flags es) ≡ true
  unfolding others
  others_every p [] h = refl
  others_every p (e ∷ es) h =
      let r : every p (others name flags es) ≡ true = others_every p es (and_right (p e) _ h) in
      by_cases (is_key name flags e) (λ q. rw q r) (λ q. rw (q, and_left (p e) _ h) r)

  others_some : (p : Entry → Bool) (es : List Entry) → some_of p es ≡ false → some_of p (others name flags es) ≡ false
  unfolding others
  others_some p [] h = refl
  others_some p (e ∷ es) h =
      let r : some_of p (others name flags es) ≡ false = others_some p es (neither (p e) _ h).1 in
      by_cases (is_key name flags e) (λ q. rw q r) (λ q. rw (q, (neither (p e) _ h).0) r)

  pub others_distinct : (es : List Entry) → distinct es ≡ true → distinct (others name flags es) ≡ true
  unfolding others distinct
  others_distinct [] h = refl
  others_distinct (e ∷ es) h =
      let n : some_of (is_key e.name e.flags) es ≡ false = not-true _ (and_left _ (distinct es) h) in
      let r : distinct (others name flags es) ≡ true = others_distinct es (and_right (not (some_of (is_key e.name e.flags) es)) _ h) in
      by_cases (is_key name flags e) (λ q. rw q r) (λ q. rw (q, others_some (is_key e.name e.flags) es n) r)

-- the same name and flags, seen from the other entry
pub key_turned : (name : List ℕ) (flags : ℕ) (value : List ℕ) (e : Entry) → is_key name flags e ≡ false
    → is_key e.name e.flags (entry flags name value) ≡ false
unfolding is_key
key_turned name flags value e h =
    by_cases (is_key e.name e.flags (entry flags name value))
    (λ q.
    let k = key_is e.name e.flags (entry flags name value) q in
    let a : eqb flags e.flags ≡ true = eq-eqb flags e.flags (sym k.0) in
    let s : same name e.name ≡ true = subst (λ (x : List ℕ). same name x ≡ true) (sym k.1) (same_refl name) in
    absurd (clash (and_both (eqb flags e.flags) _ a s) h))
    (λ q. q)

-- one more at the end
pub distinct_more : (name : List ℕ) (flags : ℕ) (value : List ℕ) (es : List Entry) → distinct es ≡ true → some_of (is_key name flags) es ≡ false
    → distinct (es ++ (entry flags name value ∷ [])) ≡ true
unfolding distinct
distinct_more name flags value [] d n = refl
distinct_more name flags value (e ∷ es) d n =
    let k : is_key e.name e.flags (entry flags name value) ≡ false = key_turned name flags value e (neither (is_key name flags e) _ n).0 in
    let s : some_of (is_key e.name e.flags) es ≡ false = not-true _ (and_left _ (distinct es) d) in
    let r : distinct (es ++ (entry flags name value ∷ [])) ≡ true =
    distinct_more name flags value es (and_right (not (some_of (is_key e.name e.flags) es)) _ d) (neither (is_key name flags e) _ n).1 in
    rw (some_more (is_key e.name e.flags) (entry flags name value) es, s, k) r
  where
    some_more : (p : Entry → Bool) (x : Entry) (es : List Entry) → some_of p (es ++ (x ∷ [])) ≡ (some_of p es || p x)
    some_more p x [] = or_false (p x)
    some_more p x (e ∷ es) = by_cases (p e) (λ q. rw q) (λ q. rw q (some_more p x es))

pub every_more : (p : Entry → Bool) (x : Entry) (es : List Entry) → every p es ≡ true → p x ≡ true → every p (es ++ (x ∷ [])) ≡ true
every_more p x [] h k = rw k
every_more p x (e ∷ es) h k = rw (and_left (p e) _ h) (every_more p x es (and_right (p e) _ h) k)

-- a list of entries around the one asked for
pub record Around (name : List ℕ) (flags : ℕ) (es : List Entry) : Type 0 where
  pub front : List Entry
  pub mid : Entry
  pub back : List Entry
  pub whole : es ≡ front ++ (mid ∷ back)
  pub rest : others name flags es ≡ front ++ back
  pub key : is_key name flags mid ≡ true

-- with where it starts and its size
pub record Split (f name : List ℕ) (flags n at : ℕ) : Type 0 where
  pub around : Around name flags (entries f n at)
  pub starts : seek f name flags n at ≡ at + length (run around.front)
  pub sized : size_at f (seek f name flags n at) ≡ length (entry_bytes around.mid)
  pub reads : entry_at f (seek f name flags n at) ≡ around.mid

here : (f name : List ℕ) (flags n at : ℕ) → is_key name flags (entry_at f at) ≡ true
    → some_of (is_key (entry_at f at).name (entry_at f at).flags) (entries f n (at + size_at f at)) ≡ false
    → length (entry_bytes (entry_at f at)) ≡ size_at f at → Split f name flags (suc n) at
unfolding places seek others
here f name flags n at k free sz =
    let i = key_is name flags (entry_at f at) k in
    let none : some_of (is_key name flags) (entries f n (at + size_at f at)) ≡ false = rw (i.0, i.1) free in
    record {
      around = record {
        front = [];
        mid = entry_at f at;
        back = entries f n (at + size_at f at);
        whole = refl;
        rest = rw k (others_all name flags (entries f n (at + size_at f at)) none);
        key = k;
      };
      starts = rw k (omega arith);
      sized = rw k (sym sz);
      reads = rw k;
    }

there : (f name : List ℕ) (flags n at : ℕ) → is_key name flags (entry_at f at) ≡ false
    → length (entry_bytes (entry_at f at)) ≡ size_at f at → Split f name flags n (at + size_at f at) → Split f name flags (suc n) at
unfolding places seek others
there f name flags n at k sz s =
    let a = s.around in
    let l : length (entry_bytes (entry_at f at) ++ run a.front) ≡ length (entry_bytes (entry_at f at)) + length (run a.front) = length-append (entry_bytes (entry_at f at)) (run a.front) in
    record {
      around = record {
        front = entry_at f at ∷ a.front;
        mid = a.mid;
        back = a.back;
        whole = ap (λ (x : List Entry). entry_at f at ∷ x) a.whole;
        rest = rw k (ap (λ (x : List Entry). entry_at f at ∷ x) a.rest);
        key = a.key;
      };
      starts = rw k (omega (arith, s.starts, l, sz));
      sized = rw k s.sized;
      reads = rw k s.reads;
    }

pub split : (f name : List ℕ) (flags n at : ℕ) → start (size_at f) n at ≤ length f → distinct (entries f n at) ≡ true
    → seek f name flags n at < start (size_at f) n at → Split f name flags n at
unfolding start places seek distinct
split f name flags zero at l d h = absurd (omega arith)
split f name flags (suc n) at l d h =
    let free : some_of (is_key (entry_at f at).name (entry_at f at).flags) (entries f n (at + size_at f at)) ≡ false = not-true _ (and_left _ (distinct (entries f n (at + size_at f at))) d) in
    let d' : distinct (entries f n (at + size_at f at)) ≡ true = and_right (not (some_of (is_key (entry_at f at).name (entry_at f at).flags) (entries f n (at + size_at f at)))) _ d in
    let sz : length (entry_bytes (entry_at f at)) ≡ size_at f at = stored_size f at (omega (arith, start_above (size_at f) n (at + size_at f at))) in
    by_cases (is_key name flags (entry_at f at))
    (λ k. here f name flags n at k free sz)
    (λ k. there f name flags n at k sz (split f name flags n (at + size_at f at) l d' (rw k at h)))
