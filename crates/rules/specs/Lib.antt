-- The parts of a block in work and what they stand for, the sizes behind 20, and the rules on the parts of one job.
pub mod Box
pub mod View
pub mod Program
pub mod Marks
pub mod Block
pub mod Steps
pub mod Becomes
pub mod Moves
pub mod Turn
pub mod Own
pub mod Sizes
pub mod Fitting
