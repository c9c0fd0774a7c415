use borrow.Author.Rules.{rules}
use mathlib.Core.Path.{◌∙◌}
use Rattle.std.proofs.Common.{tests}
use Rattle.std.proofs.lemmas.Iterator.Search.{any_from_yields_List}
use Rattle.name.specs.Name.{same_name}
use Rattle.dir_sf.specs.Fork.{holds}
use Rattle.dir_sf.specs.Left.{left}
use Rattle.dir_sf.proofs.Turn.{given_list, some_bare}
use Rattle.dir_sf.proofs.Entries.holds.Goals as goal

pub returns : goal.returns
unfolding holds
returns c =
    any_from_yields_List (λ x. same_name c.args.self.edition c.args.name.now x.1.name) c.any.new.self _ c.any.result c.any.ensures.ran
    (given_list c.args.self) (λ x b q k. search (rules, tests))
    ∙ some_bare (λ x. same_name c.args.self.edition c.args.name.now x.name) (left c.args.self)
