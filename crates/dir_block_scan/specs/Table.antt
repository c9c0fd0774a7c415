-- The pairs that a scan holds. Assumes nothing.
use Rattle.std.specs.Prelude.{Bool, cond, List, [], ◌∷◌, ltb, length, take}
use Rattle.dir_block_rules.specs.Verdict.{Pair, pair}
use Rattle.dir_block_scan.specs.declared.Gap.{Gap}
use Rattle.dir_block_scan.specs.declared.Scan.{Scan}

abbrev pub pair_of : Gap → Pair
pair_of g = pair g.at g.len

-- all four
abbrev pub table : Scan → List Pair
table s = pair_of s.first ∷ pair_of s.second ∷ pair_of s.third ∷ pair_of s.fourth ∷ []

-- the first three, as many as a block stores
abbrev pub three : Scan → List Pair
three s = pair_of s.first ∷ pair_of s.second ∷ pair_of s.third ∷ []

-- the first two
abbrev pub top : Scan → List Pair
top s = pair_of s.first ∷ pair_of s.second ∷ []

-- the first
abbrev pub first : Scan → List Pair
first s = pair_of s.first ∷ []

-- the longer one stands before
abbrev pub longer : Pair → Pair → Bool
longer p q = ltb q.long p.long

-- a pair put into a table of fixed length, before the first that it stands before
unfoldable pub put_by : (Pair → Pair → Bool) → Pair → List Pair → List Pair
put_by b p [] = []
put_by b p (q ∷ qs) = let r = put_by b p qs in cond (b p q) (p ∷ take (length qs) (q ∷ qs)) (q ∷ r)
