-- What the loop for the benchmark writes.
pub mod Hands
