pub mod Bursts
pub mod Laws
pub mod LoggedBursts
