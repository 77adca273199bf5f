pub mod Asks
pub mod Callers
pub mod FleetLoops
pub mod ShardLoops
pub mod WeaveLoops
