use mathlib.Core.Path.{refl}
use Rattle.crc32c.specs.Crc.{eight, poly_steps, poly_step}
use Rattle.crc32c.proofs.TableRules.{tables_rule}
use Rattle.crc32c.proofs.sum_without.Goals as goal

pub in_runs-requires : goal.in_runs-requires
unfolding eight poly_steps poly_step
in_runs-requires c = (c.requires, tables_rule _ _ refl refl refl refl)

pub returns : goal.returns
returns c = c.in_runs.ensures
