pub mod TalkLemmas
pub mod SeatLemmas
pub mod ChatLemmas
