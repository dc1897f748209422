-- One law for each return of the code, over plain variables.
pub mod Finish
