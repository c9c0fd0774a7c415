pub mod Crc
pub mod Seal
