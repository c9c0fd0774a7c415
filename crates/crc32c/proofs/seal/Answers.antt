use Rattle.crc32c.proofs.SealLaws.{seal_law}
use borrow.Author.Rules.{rules}
use Rattle.crc32c.proofs.seal.Goals as goal

pub returns : goal.returns
returns c = search (seal_law, rules)
