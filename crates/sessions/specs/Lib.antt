-- A session: its parts, and the text of what happened.
pub mod Limits
pub mod Text
pub mod Fields
pub mod Session
pub mod Short
