-- What the machine and the checker are to do, in document 01's words; then what follows.
pub mod Limits
pub mod Instruction
pub mod Machine
pub mod Able
pub mod Verdict
pub mod Passing
pub mod Fitting
pub mod Paper
pub mod Framed
pub mod View
