-- Each law over V4.
-- Assumes nothing.
use Rattle.edition.specs.Edition.{v4}
use Rattle.edition.proofs.Sizes.{v4_sane}
use Rattle.attr_sf.specs.Laws.{RemovalLaw, SetLaw, UnmovedLaw, RefusalLaw, FoundLaw, AbsentLaw, WalkLaw, PartsLaw}
use Rattle.attr_sf.proofs.RemovalLaw.{removal_law}
use Rattle.attr_sf.proofs.SetLaw.{set_law}
use Rattle.attr_sf.proofs.OtherLookups.{unmoved_law, refusal_law}
use Rattle.attr_sf.proofs.LookupLaws.{found_law, absent_law}
use Rattle.attr_sf.proofs.WholeWalk.{walk_law}
use Rattle.attr_sf.proofs.EntryParts.{parts_law}

pub v4_removal : RemovalLaw v4
v4_removal = removal_law v4 v4_sane

pub v4_set : SetLaw v4
v4_set = set_law v4 v4_sane

pub v4_unmoved : UnmovedLaw v4
v4_unmoved = unmoved_law v4 v4_sane

pub v4_refusal : RefusalLaw v4
v4_refusal = refusal_law v4

pub v4_found : FoundLaw v4
v4_found = found_law v4

pub v4_absent : AbsentLaw v4
v4_absent = absent_law v4

pub v4_walk : WalkLaw v4
v4_walk = walk_law v4

pub v4_parts : PartsLaw v4
v4_parts = parts_law v4
