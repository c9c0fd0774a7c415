-- Numbers in bytes, least significant first: words of eight bytes, and checksums.
-- Assumes nothing.
use Rattle.std.specs.Prelude.{ℕ, zero, suc, ◌+◌, ◌*◌, ◌/◌, ◌%◌, List, [], ◌∷◌}

-- the number that the bytes are
unfoldable pub le : List ℕ → ℕ
le [] = 0
le (x ∷ xs) = le xs * 256 + x

-- the n lowest bytes of w
unfoldable pub to_le : ℕ → ℕ → List ℕ
to_le zero w = []
to_le (suc n) w = w % 256 ∷ to_le n (w / 256)
