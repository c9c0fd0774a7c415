use Rattle.be.proofs.Stores.{store}
use Rattle.be.proofs.put8.Goals as goal

pub returns : goal.returns
returns c =
    store _ _ _
