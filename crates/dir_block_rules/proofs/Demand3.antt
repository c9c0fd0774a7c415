-- Demand 3 holds over every edition of sane sizes, and so over V4.
-- Assumes nothing.
use mathlib.Core.Path.{refl}
use Rattle.edition.specs.declared.Edition.{Edition}
use Rattle.edition.specs.Edition.{v4, Sane}
use Rattle.edition.proofs.Sizes.{v4_sane}
use Rattle.dir_block_rules.specs.Calls.{after, book_of}
use Rattle.dir.specs.Book.{SameBook}
use Rattle.dir_block_rules.specs.Demand.{CallRight, book_next, Demand3}
use Rattle.dir.proofs.EveryList.{along}
use Rattle.dir_block_rules.proofs.EachCall.{Kept, each_call}

pub demand_3 : (e : Edition) → Sane e → Demand3 e
unfolding Demand3 SameBook
demand_3 e sane b h a cs q =
    along (CallRight e) (book_next e) (after e) (Kept e) (each_call e sane) (book_of e b) b (record { are_bytes = h; ok = a; same = λ x. refl }) cs q

pub v4_demand_3 : Demand3 v4
v4_demand_3 = demand_3 v4 v4_sane
