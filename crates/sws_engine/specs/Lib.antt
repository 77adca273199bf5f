pub mod CrewLeaves
pub mod Gated
