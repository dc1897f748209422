-- Demand 2 as a promise of code.
pub mod Numbered
pub mod Finish
pub mod Edge
