pub mod Scans
pub mod Rotation
pub mod Hashing
pub mod FirstBytes
pub mod Same
pub mod Legality
pub mod Once
pub mod EqualWords
