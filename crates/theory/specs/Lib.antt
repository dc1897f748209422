-- The promise of a machine, the plain engine over any machine that keeps it, and the words in which the theorems of proofs/ are stated.
pub mod Lists
pub mod Promise
pub mod Run
pub mod Word
pub mod Engine
pub mod Serial
pub mod Scenarios
pub mod Every
pub mod Histories
pub mod Follows
