-- The refusals of an insert's request that need no search, and what follows them.
-- Assumes nothing.
use Rattle.std.specs.Prelude.{ℕ, Bool, not}
use Rattle.refusal.specs.Refusal.{ASKED, FIXED}
use Rattle.be.specs.Codes.{◌unless◌then◌}

-- 11 ASKED: the request is not legal; 12 FIXED; then the rest
unfoldable pub asked_of : Bool → Bool → ℕ → ℕ
asked_of legal fixed rest = ASKED unless legal then FIXED unless not fixed then rest
