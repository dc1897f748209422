-- The answers as numbers, for callers in C.
pub mod Numbers
-- The version and the layout that callers are compiled against.
pub mod Version
