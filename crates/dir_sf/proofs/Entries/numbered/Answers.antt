use borrow.Author.Rules.{rules}
use mathlib.Core.Path.{refl, sym, ◌∙◌}
use Rattle.std.proofs.Common.{tests}
use Rattle.std.proofs.lemmas.Iterator.Search.{all_from_yields_List}
use Rattle.dir_sf.specs.Fork.{numbers_ok}
use Rattle.dir_sf.specs.Left.{left}
use Rattle.dir_sf.proofs.Tests.{number_ok}
use Rattle.dir_sf.proofs.Turn.{given_list, every_bare}
use Rattle.dir_sf.proofs.Entries.numbered.Goals as goal

pub returns-then-number_legal : goal.returns-then-number_legal
unfolding numbers_ok
returns-then-number_legal c =
    all_from_yields_List (λ x. number_ok x.1) c.all.new.self _ c.all.result c.all.ensures.ran
    (given_list c.args.self) (λ x b q k. search (rules, tests))
    ∙ every_bare number_ok (left c.args.self)
    ∙ sym (rw (sym c.number_legal.ensures ∙ c.if-number_legal.true) refl)

pub returns-else-number_legal : goal.returns-else-number_legal
unfolding numbers_ok
returns-else-number_legal c = rw (← c.number_legal.ensures, c.if-number_legal.false) refl
