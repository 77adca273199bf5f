mod CrewLemmas
mod BegunLemmas
mod OwnLemmas
mod WorkerAccountLemmas
mod CrewAccountLemmas
mod SettlingLemmas
mod ToldLemmas
mod ToldCrewLemmas
