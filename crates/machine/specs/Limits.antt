-- Document 01's sizes, each named once.
use Rattle.std.specs.Prelude.{ℕ}

-- instructions in a job
abbrev pub LONGEST : ℕ
LONGEST = 64

-- entries on a stack
abbrev pub ROOM : ℕ
ROOM = 16

-- READ, and WRITE, in a job
abbrev pub FEW : ℕ
FEW = 8

-- jobs in a block
abbrev pub JOBS : ℕ
JOBS = 16

abbrev pub CELLS : ℕ
CELLS = 256
