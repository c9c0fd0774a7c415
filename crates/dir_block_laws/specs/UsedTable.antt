-- The best-gap table that an insert leaves, from T and the four longest other gaps before it.
-- Assumes nothing.
use Rattle.std.specs.Prelude.{ℕ, ◌+◌, ◌-◌, ◌*◌, cond, ◌&&◌, List, [], ◌∷◌, leb, take}
use Rattle.dir_block_rules.specs.Verdict.{Pair, pair}
use Rattle.dir_block_laws.specs.BestSoFar.{ins, ins_at}

-- the gap p without its first n bytes
abbrev pub less : ℕ → Pair → Pair
less n p = pair (p.from + n) (p.long - n)

-- without its last 8 bytes, which a slot takes
abbrev pub shorter : Pair → Pair
shorter p = pair p.from (p.long - 8)

-- with the k bytes behind it
abbrev pub longer : ℕ → Pair → Pair
longer k p = pair p.from (p.long + k)

-- the entry goes into the longest other gap, p; ps are the next ones, and t is what T is then
abbrev pub into_other : ℕ → Pair → Pair → List Pair → List Pair
into_other n t p ps = ins t (ins_at (less n p) ps)

-- the entry goes into T, which is t then; ps are the longest other gaps
abbrev pub into_last : ℕ → Pair → List Pair → List Pair
into_last n t ps = ins (less n t) (take 3 ps)

-- by the room rule, where there is room for n bytes, s slots are stale and T is t: (a), where the longest gap is T only if it is longer than
-- the others; (b); (c); (d)
unfoldable pub used_table : ℕ → ℕ → Pair → List Pair → List Pair
used_table n s t [] = []
used_table n s t (p ∷ ps) =
    cond (leb 1 s)
    (cond (leb t.long p.long && leb n p.long) (into_other n t p ps)
    (cond (leb n t.long) (into_last n t (p ∷ ps)) (into_last n (longer (8 * (s - 1)) t) (p ∷ ps))))
    (cond (leb n p.long) (into_other n (shorter t) p ps) (into_last n (shorter t) (p ∷ ps)))
