-- What only private contracts and proofs cite.
pub mod Machines
pub mod Starts
pub mod Calls
pub mod Numbers
