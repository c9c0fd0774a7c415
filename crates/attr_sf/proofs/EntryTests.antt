-- Tests 6 and 7, entry by entry: the turns and the ends of the one loop that does both.
-- Assumes nothing.
use Prim.Native.Nat.{ℕ, ◌+◌, ◌-◌, ◌≤◌, ◌<◌}
use native.Mathlib.Omega.{arith}
use mathlib.Core.Bool.{Bool, true, false, ◌&&◌}
use mathlib.Core.Path.{◌≡◌, ◌∙◌}
use mathlib.Core.List.{List}
use Rattle.be.specs.Lists.{every}
use Rattle.records.proofs.Turns.{every_fails, every_on, every_and, every_done}
use Rattle.attr_sf.proofs.Tiling.{Left, left_all, left_next}
use Rattle.attr_sf.specs.Fork.{size_at, entry_at, entries, name_legal_of, flags_legal_of}
use Rattle.attr_sf.specs.Inner.{own_verdict}

-- the entries before at have legal names, and legal flags where flagged says so
pub record Passed (f : List ℕ) (n from i at : ℕ) (flagged : Bool) : Type 0 where
  pub names : Left (λ m p. every name_legal_of (entries f m p)) f n from i at
  pub flags : every flags_legal_of (entries f n from) ≡ (flagged && every flags_legal_of (entries f (n - i) at))

pub passed_none : (f : List ℕ) (n from : ℕ) → Passed f n from 0 from true
passed_none f n from =
    let q : n - 0 ≡ n = omega arith in
    record { names = left_all (λ m p. every name_legal_of (entries f m p)) f n from; flags = rw q }

module _ {f : List ℕ} {n from i at : ℕ} {flagged : Bool} (v : Passed f n from i at flagged) where
  module _ (h : i < n) where
    pub passed_stop : name_legal_of (entry_at f at) ≡ false
        → 6 ≡ own_verdict (entries f n from)
    passed_stop q = rw (v.names.rest.whole ∙ every_fails (size_at f) (entry_at f) name_legal_of (n - i) at (omega arith) q)

    pub passed_next : {p : ℕ} {g : Bool} → name_legal_of (entry_at f at) ≡ true → g ≡ flags_legal_of (entry_at f at) → p ≡ at + size_at f at
        → Passed f n from (i + 1) p (flagged && g)
    passed_next q g e =
        let k : n - (i + 1) ≡ n - i - 1 = omega arith in
        record {
          names = left_next v.names h e (every_on (size_at f) (entry_at f) name_legal_of (n - i) at (omega arith) q);
          flags = rw (k, e, g) (v.flags ∙ every_and (size_at f) (entry_at f) flags_legal_of flagged (n - i) at (omega arith));
        }

  module _ (h : n ≤ i) where
    pub passed_done : flagged ≡ true → 0 ≡ own_verdict (entries f n from)
    passed_done q = rw (v.names.rest.whole ∙ every_done (size_at f) (entry_at f) name_legal_of (n - i) at (omega arith), v.flags, q, every_done (size_at f) (entry_at f) flags_legal_of (n - i) at (omega arith))

    pub passed_not : flagged ≡ false → 7 ≡ own_verdict (entries f n from)
    passed_not q = rw (v.names.rest.whole ∙ every_done (size_at f) (entry_at f) name_legal_of (n - i) at (omega arith), v.flags, q)
