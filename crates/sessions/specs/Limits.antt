-- Document 01's sizes of a session, each named once.
use Rattle.std.specs.Prelude.{ℕ}

-- bytes in a session
abbrev pub BYTES : ℕ
BYTES = 16384

-- turns in a session
abbrev pub TURNS : ℕ
TURNS = 4000
