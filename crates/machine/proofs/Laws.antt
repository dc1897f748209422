-- One law for each return of the code, over plain variables; a function's laws stand in one ruleset.
pub mod Tests
pub mod Instruction
pub mod Stack
pub mod Step
pub mod Verdict
pub mod Bytes
pub mod Paper
