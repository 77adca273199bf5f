mod SeatLemmas
mod ToldLemmas
mod OrderLemmas
mod HeardLemmas
