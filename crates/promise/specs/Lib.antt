-- What the checker's pass is worth: the promise that the engine knows the machine by.
pub mod Tables
pub mod Heights
pub mod Keeps
pub mod Exactly
pub mod Papers
