use borrow.Author.Rules.{rules}
use Rattle.dir_sf_edit.proofs.TagScans.{ends_used, gaps_used, tag_last, tag_gap, tag_none}
use Rattle.dir_sf_edit.proofs.tag_of.Goals as goal

pub returns-then-end-long : goal.returns-then-end-long
returns-then-end-long c = let f = ends_used _ _ _ _ _ c.of-entries.ensures.0 c.of-entries.ensures.1 c.end_of-end.ensures.0 in search (rules, tag_last)

pub returns-then-end-k : goal.returns-then-end-k
returns-then-end-k c =
    let f = ends_used _ _ _ _ _ c.of-entries.ensures.0 c.of-entries.ensures.1 c.end_of-end.ensures.0 in
    tag_gap _ _ _ _ _ _ _ c.be8-k.ensures.0 c.entry_size-long.ensures.0 f _ c.if-end-long.false c.if-end-k.true
    (gaps_used _ _ _ _ _ _ c.of-entries.ensures.0 c.of-entries.ensures.1 c.gap_of.ensures)

pub returns : goal.returns
returns c = let f = ends_used _ _ _ _ _ c.of-entries.ensures.0 c.of-entries.ensures.1 c.end_of-end.ensures.0 in search (rules, tag_none)
