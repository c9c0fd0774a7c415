use mathlib.Core.Path.{refl}
use Rattle.name_words.specs.Words.{mix}
use Rattle.name_words.proofs.mixed.Goals as goal

pub returns : goal.returns
unfolding mix
returns c = refl
