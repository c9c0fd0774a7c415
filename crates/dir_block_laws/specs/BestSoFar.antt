-- The longest so far: a pair put into a table of fixed length, longest first, after those that are as long or by offset among them.
-- Assumes nothing.
use Rattle.std.specs.Prelude.{Bool, cond, ◌&&◌, ◌||◌, List, [], ◌∷◌, eqb, ltb, length, take}
use Rattle.dir_block_rules.specs.Verdict.{Pair}

unfoldable pub ins : Pair → List Pair → List Pair
ins p [] = []
ins p (q ∷ qs) = let r = ins p qs in cond (ltb q.long p.long) (p ∷ take (length qs) (q ∷ qs)) (q ∷ r)

-- each of the pairs, in order
unfoldable pub ins_all : List Pair → List Pair → List Pair
ins_all [] ts = ts
ins_all (p ∷ ps) ts = ins_all ps (ins p ts)

-- p stands before q: it is longer, or as long and starts before it
abbrev pub ahead : Pair → Pair → Bool
ahead p q = ltb q.long p.long || (eqb q.long p.long && ltb p.from q.from)

-- a pair put into a table where it belongs by length, and among those as long by offset
unfoldable pub ins_at : Pair → List Pair → List Pair
ins_at p [] = []
ins_at p (q ∷ qs) = let r = ins_at p qs in cond (ahead p q) (p ∷ take (length qs) (q ∷ qs)) (q ∷ r)
