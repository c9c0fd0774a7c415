use borrow.Author.Rules.{rules}
use mathlib.Core.Path.{◌∙◌}
use Rattle.std.proofs.Common.{tests}
use Rattle.std.proofs.lemmas.Iterator.Search.{all_from_yields_List}
use Rattle.dir_sf.specs.Fork.{name_ok, names_ok}
use Rattle.dir_sf.specs.Left.{left}
use Rattle.dir_sf.proofs.Turn.{given_list, every_bare}
use Rattle.dir_sf.proofs.Entries.named.Goals as goal

pub returns : goal.returns
unfolding names_ok
returns c =
    all_from_yields_List (λ x. name_ok c.args.self.edition x.1) c.all.new.self _ c.all.result c.all.ensures.ran
    (given_list c.args.self) (λ x b q k. search (rules, tests))
    ∙ every_bare (name_ok c.args.self.edition) (left c.args.self)
