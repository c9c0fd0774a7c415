pub mod WalkerWalk
