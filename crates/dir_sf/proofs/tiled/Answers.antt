use borrow.Author.Rules.{rules}
use Rattle.dir_sf.proofs.Tests.{tile_start, tile_none, tile_short, tile_odd, tile_low, tile_on, tile_over, tile_done}
use Rattle.dir_sf.proofs.tiled.Goals as goal

pub loop-init : goal.loop-init
loop-init c = search (rules, tile_start)

pub returns-then-u-p : goal.returns-then-u-p
returns-then-u-p c = search (rules, tile_none)

pub returns-then-u-p-2 : goal.returns-then-u-p-2
returns-then-u-p-2 c = search (rules, tile_short)

pub returns-then-tag-ne0 : goal.returns-then-tag-ne0
returns-then-tag-ne0 c = search (rules, tile_odd)

pub returns-then-tag-low : goal.returns-then-tag-low
returns-then-tag-low c = search (rules, tile_low)

pub loop-preserved : goal.loop-preserved
loop-preserved c = search (rules, tile_on)

pub returns-then-p-u : goal.returns-then-p-u
returns-then-p-u c = search (rules, tile_over)

pub returns : goal.returns
returns c = search (rules, tile_done)
