-- The laws of the changes hold over every edition of sane sizes, and so over V4.
-- Assumes nothing.
use Rattle.edition.specs.Edition.{v4}
use Rattle.edition.proofs.Sizes.{v4_sane}
use Rattle.dir_sf_edit.specs.Laws.{InsertAccepted, RemoveAccepted, InsertNames, RemoveNames, WideLaid, WideAccepted, WideEmpty, RemoveWide, PutBack}
use Rattle.dir_sf_edit.specs.Follows.{FollowsBook}
use Rattle.dir_sf_edit.proofs.Kept.{insert_accepted, remove_accepted, insert_names, remove_names, wide_laid, wide_accepted, wide_empty, remove_wide, put_back}
use Rattle.dir_sf_edit.proofs.FollowsBook.{follows_book}

pub v4_insert_accepted : InsertAccepted v4
v4_insert_accepted = insert_accepted v4 v4_sane

pub v4_remove_accepted : RemoveAccepted v4
v4_remove_accepted = remove_accepted v4 v4_sane

pub v4_insert_names : InsertNames v4
v4_insert_names = insert_names v4 v4_sane

pub v4_remove_names : RemoveNames v4
v4_remove_names = remove_names v4 v4_sane

pub v4_wide_laid : WideLaid v4
v4_wide_laid = wide_laid v4 v4_sane

pub v4_wide_accepted : WideAccepted v4
v4_wide_accepted = wide_accepted v4 v4_sane

pub v4_wide_empty : WideEmpty v4
v4_wide_empty = wide_empty v4 v4_sane

pub v4_remove_wide : RemoveWide v4
v4_remove_wide = remove_wide v4 v4_sane

pub v4_follows_book : FollowsBook v4
v4_follows_book = follows_book v4 v4_sane

pub v4_put_back : PutBack v4
v4_put_back = put_back v4 v4_sane
