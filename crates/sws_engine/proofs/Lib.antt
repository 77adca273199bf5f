mod Ends
mod Crews
