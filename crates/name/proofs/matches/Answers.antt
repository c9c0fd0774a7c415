use Rattle.name.specs.Name.{same_name}
use Rattle.name.proofs.matches.Goals as goal

pub returns : goal.returns
unfolding same_name
returns c = c.equal.ensures
