mod FleetLemmas
mod ShardLemmas
