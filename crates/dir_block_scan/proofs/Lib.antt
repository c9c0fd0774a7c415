pub mod TableStored
pub mod PutBy
