-- One law for each return of the code, over plain variables.
pub mod Solo
pub mod Alone
pub mod Accepted
pub mod Serial
pub mod Turn
pub mod Store
pub mod Open
pub mod Settled
pub mod Many
