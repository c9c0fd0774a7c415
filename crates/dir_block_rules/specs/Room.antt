-- The room rule: E for the name, s stale slots, T the gap touching the slots.
-- Assumes nothing.
use Rattle.std.specs.Prelude.{ℕ, ◌+◌, ◌-◌, ◌*◌, Bool, cond, ◌&&◌, ◌||◌, List, [], ◌∷◌, eqb, leb, length}
use Rattle.be.specs.Lists.{some_of}
use Rattle.edition.specs.declared.Edition.{Edition}
use Rattle.edition.specs.Edition.{entry_size}
use Rattle.dir_block_rules.specs.Record.{Rec, rec, size, is_gap, gaps, besides}
use Rattle.dir_block_rules.specs.Block.{records, data_end, stale_of}

-- the last record, or an empty record at o
unfoldable pub last_of : ℕ → List Rec → Rec
last_of o [] = rec o []
last_of o (r ∷ []) = r
last_of o (r ∷ s ∷ rs) = last_of o (s ∷ rs)

-- T: the gap touching the slots; 0 long, at the data's end, if none
unfoldable pub touching : ℕ → List Rec → Rec
touching o rs = cond (is_gap (last_of o rs)) (last_of o rs) (rec o [])

-- what the rule looks at: E, s, T and the gaps
pub record Room : Type 0 where
  pub needed : ℕ
  pub stale : ℕ
  pub last_gap : Rec
  pub all_gaps : List Rec

unfoldable pub room_of : Edition → List ℕ → List ℕ → Room
room_of e b n =
    record {
      needed = entry_size e (length n);
      stale = stale_of b;
      last_gap = touching (data_end b) (records e b);
      all_gaps = gaps (records e b);
    }

-- the gaps other than T
abbrev pub other_gaps : Room → List Rec
other_gaps m = besides m.last_gap.off m.all_gaps

-- s ≥ 1
abbrev pub some_stale : Room → Bool
some_stale m = leb 1 m.stale

-- (a) s ≥ 1 and some gap is at least E
abbrev pub case_a : Room → Bool
case_a m = some_stale m && some_of (λ g. leb m.needed (size g)) m.all_gaps

-- (b) s ≥ 1 and T + 8 × (s - 1) is at least E
abbrev pub case_b : Room → Bool
case_b m = some_stale m && leb m.needed (size m.last_gap + 8 * (m.stale - 1))

-- (c) s = 0, T ≥ 8 and a gap other than T is at least E
abbrev pub case_c : Room → Bool
case_c m = eqb m.stale 0 && leb 8 (size m.last_gap) && some_of (λ g. leb m.needed (size g)) (other_gaps m)

-- (d) s = 0 and T is at least E + 8
abbrev pub case_d : Room → Bool
case_d m = eqb m.stale 0 && leb (m.needed + 8) (size m.last_gap)

-- there is room exactly if one of these holds
unfoldable pub has_room : Edition → List ℕ → List ℕ → Bool
has_room e b n = case_a (room_of e b n) || case_b (room_of e b n) || case_c (room_of e b n) || case_d (room_of e b n)
