pub mod RoomTaken
pub mod EntryStored
pub mod Refused
