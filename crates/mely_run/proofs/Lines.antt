pub mod ShownLemmas
pub mod DeliveriesLemmas
pub mod FollowsLemmas
