-- A pair put into a table by either order.
-- Assumes nothing.
use mathlib.Core.Path.{◌≡◌, refl, ap}
use mathlib.Core.List.{List, [], ◌∷◌}
use Rattle.std.specs.Prelude.{cond, ltb, length, take}
use Rattle.dir_block_rules.specs.Verdict.{Pair}
use Rattle.dir_block_laws.specs.BestSoFar.{ins, ins_at, ahead}
use Rattle.dir_block_scan.specs.Table.{longer, put_by}

pub put_longer : (p : Pair) (ps : List Pair) → put_by longer p ps ≡ ins p ps
unfolding put_by ins
put_longer p [] = refl
put_longer p (q ∷ qs) = ap (λ (r : List Pair). cond (ltb q.long p.long) (p ∷ take (length qs) (q ∷ qs)) (q ∷ r)) (put_longer p qs)

pub put_ahead : (p : Pair) (ps : List Pair) → put_by ahead p ps ≡ ins_at p ps
unfolding put_by ins_at
put_ahead p [] = refl
put_ahead p (q ∷ qs) = ap (λ (r : List Pair). cond (ahead p q) (p ∷ take (length qs) (q ∷ qs)) (q ∷ r)) (put_ahead p qs)
