-- The functions on a whole block: the opening, a turn's change, lists of turns, the settled table, the serial run; and the demands for the box.
pub mod Change
pub mod Many
pub mod Going
pub mod Open
pub mod SerialRun
pub mod Alone
pub mod Settled
pub mod Demands
