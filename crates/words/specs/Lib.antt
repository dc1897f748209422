-- The word of a turn.
pub mod Words
