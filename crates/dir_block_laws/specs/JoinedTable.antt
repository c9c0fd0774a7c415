-- The best-gap table of pairs in offset order: where a gap takes the place of some, and but for one.
-- Assumes nothing.
use Rattle.std.specs.Prelude.{ℕ, ◌-◌, cond, List, [], ◌∷◌, eqb, leb, ltb}
use Rattle.dir_block_rules.specs.Verdict.{Pair, pair}
use Rattle.dir_block_laws.specs.BestSoFar.{ins}

-- into the table ts those of the pairs that start before o
unfoldable pub ins_before : ℕ → List Pair → List Pair → List Pair
ins_before o [] ts = ts
ins_before o (p ∷ ps) ts = ins_before o ps (cond (ltb p.from o) (ins p ts) ts)

-- into the table ts those of the pairs that start at u or behind
unfoldable pub ins_behind : ℕ → List Pair → List Pair → List Pair
ins_behind u [] ts = ts
ins_behind u (p ∷ ps) ts = ins_behind u ps (cond (leb u p.from) (ins p ts) ts)

-- into the table ts those of the pairs that start elsewhere than at u
unfoldable pub ins_besides : ℕ → List Pair → List Pair → List Pair
ins_besides u [] ts = ts
ins_besides u (p ∷ ps) ts = ins_besides u ps (cond (eqb p.from u) ts (ins p ts))

-- no gaps
abbrev pub empty_table : List Pair
empty_table = pair 0 0 ∷ pair 0 0 ∷ pair 0 0 ∷ []

-- the table of the pairs, with one gap from o up to u in place of those that start there
unfoldable pub joined_table : ℕ → ℕ → List Pair → List Pair
joined_table o u ps = ins_behind u ps (ins (pair o (u - o)) (ins_before o ps empty_table))

-- two pairs in offset order
unfoldable pub in_order : Pair → Pair → List Pair
in_order p q = cond (ltb q.from p.from) (q ∷ p ∷ []) (p ∷ q ∷ [])
