-- The fields of a sound inode, its size left out, keep their value in 4 bytes.
-- Assumes nothing.
use Prim.Native.Nat.{ℕ, ◌≤◌}
use native.Mathlib.Omega.{arith}
use mathlib.Core.Bool.{true}
use mathlib.Core.Path.{◌≡◌, sym}
use mathlib.Core.List.{List}
use lib.ListN.{length}
use Rattle.be.specs.Bytes.{bytes}
use Rattle.be.proofs.Parts.{field_1, field_lt}
use Rattle.edition.specs.declared.Edition.{Edition}
use Rattle.dinode.specs.declared.Core.{Core}
use Rattle.std.specs.Prelude.{Ok}
use Rattle.refusal.proofs.Passed.{ok_done, ok_given}
use Rattle.dinode.specs.Core.{core_of, tested}
use Rattle.dinode.proofs.Sound.{sound_size}
use Rattle.pelunziwa.specs.Answers.{Fitting}

core_fits : (b : List ℕ) → bytes b ≡ true → 256 ≤ length b → Fitting (core_of b)
unfolding core_of
core_fits b h l =
    record {
      magic_fits = field_lt 0 2 b h (omega arith);
      mode_fits = field_lt 2 2 b h (omega arith);
      version_fits = rw (← field_1 b 4) (field_lt 4 1 b h (omega arith));
      format_fits = rw (← field_1 b 5) (field_lt 5 1 b h (omega arith));
      forkoff_fits = rw (← field_1 b 82) (field_lt 82 1 b h (omega arith));
      aformat_fits = rw (← field_1 b 83) (field_lt 83 1 b h (omega arith));
    }

pub sound_fits : (e : Edition) (b : List ℕ) {c : Core} → bytes b ≡ true → Ok c ≡ tested e b → Fitting c
unfolding tested
sound_fits e b {c} h t = rw (ok_given _ (core_of b) t) (core_fits b h (sound_size e b (sym (ok_done (core_of b) t))).0)
