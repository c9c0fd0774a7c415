-- What the rules ask of an edition's sealing: it changes bytes of the header alone, and neither the magic nor the best-gap table.
-- Assumes nothing.
use Prim.Native.Nat.{ℕ}
use mathlib.Core.Bool.{true}
use mathlib.Core.Path.{◌≡◌, refl}
use mathlib.Core.List.{List}
use lib.ListN.{length, drop}
use Rattle.be.specs.Bytes.{bytes, part}
use Rattle.edition.specs.declared.Edition.{Edition}
use Rattle.edition.specs.Edition.{Sane}
use Rattle.dir_block_rules.specs.Change.{sealed}

pub record Seals (e : Edition) (b : List ℕ) : Type 0 where
  pub long : length (sealed e b) ≡ length b
  pub behind : drop e.header (sealed e b) ≡ drop e.header b
  pub magic_stays : part 0 4 (sealed e b) ≡ part 0 4 b
  pub table_stays : part e.best 12 (sealed e b) ≡ part e.best 12 b
  pub stays_bytes : bytes b ≡ true → bytes (sealed e b) ≡ true

pub seals : (e : Edition) → Sane e → (b : List ℕ) → Seals e b
unfolding sealed
seals e sane b = record { long = refl; behind = refl; magic_stays = refl; table_stays = refl; stays_bytes = λ h. h }

-- today no edition has anything to seal; the code's stores cite this where they end
pub unsealed : (e : Edition) (b : List ℕ) → sealed e b ≡ b
unfolding sealed
unsealed e b = refl
