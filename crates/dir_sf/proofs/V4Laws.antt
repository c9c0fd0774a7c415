-- The laws of lookup and walk hold over every edition of sane sizes, and so over V4.
-- Assumes nothing.
use Rattle.edition.specs.Edition.{v4}
use Rattle.edition.proofs.Sizes.{v4_sane}
use Rattle.dir_sf.specs.Laws.{LookupStored, LookupAbsent, LookupParent, WalkWhole, WalkEnds, WalkNames, TagsRise, WalkNoGap}
use Rattle.dir_sf.proofs.Stored.{lookup_stored, lookup_absent, lookup_parent}
use Rattle.dir_sf.proofs.Whole.{walk_whole, walk_ends, tags_rise, walk_no_gap}
use Rattle.dir_sf.proofs.StepNames.{walk_names}

pub v4_lookup_stored : LookupStored v4
v4_lookup_stored = lookup_stored v4 v4_sane

pub v4_lookup_absent : LookupAbsent v4
v4_lookup_absent = lookup_absent v4 v4_sane

pub v4_lookup_parent : LookupParent v4
v4_lookup_parent = lookup_parent v4 v4_sane

pub v4_walk_whole : WalkWhole v4
v4_walk_whole = walk_whole v4 v4_sane

pub v4_walk_ends : WalkEnds v4
v4_walk_ends = walk_ends v4 v4_sane

pub v4_walk_names : WalkNames v4
v4_walk_names = walk_names v4 v4_sane

pub v4_tags_rise : TagsRise v4
v4_tags_rise = tags_rise v4 v4_sane

pub v4_walk_no_gap : WalkNoGap v4
v4_walk_no_gap = walk_no_gap v4
