-- Rows of the table of starred numbers: what a definition gives, and what the paper says it gives. The whole table and the claim
-- about it stand in dir_block_rules/specs/Starred.antt.
-- Assumes nothing.
use Rattle.std.specs.Prelude.{ℕ, Bool, List, [], ◌∷◌}
use Rattle.be.specs.Lists.{same}
use Rattle.edition.specs.Edition.{v4}
use Rattle.name.specs.Name.{hash_of, dot, dotdot}

pub record Row : Type 0 where
  pub computed : List ℕ
  pub stated : List ℕ

abbrev pub row : List ℕ → List ℕ → Row
row c s = record { computed = c; stated = s }

abbrev pub right : Row → Bool
right r = same r.computed r.stated

abbrev pub hash_row : List ℕ → ℕ → Row
hash_row n h = row (hash_of v4 n ∷ []) (h ∷ [])

-- H1 to H5: ".", "..", attr1, attr2, big_attr
unfoldable pub hash_rows : List Row
hash_rows =
    hash_row dot 0x2e
    ∷ hash_row dotdot 0x172e
    ∷ hash_row (97 ∷ 116 ∷ 116 ∷ 114 ∷ 49 ∷ []) 0x1e9d3937
    ∷ hash_row (97 ∷ 116 ∷ 116 ∷ 114 ∷ 50 ∷ []) 0x1e9d3934
    ∷ hash_row (98 ∷ 105 ∷ 103 ∷ 95 ∷ 97 ∷ 116 ∷ 116 ∷ 114 ∷ []) 0xfcf89d4f
    ∷ []
