-- Document 01, "The block paper": what an instruction's code and operand tell by themselves. Tables go by code, 0 to 13.
use Rattle.std.specs.Prelude.{ℕ, ◌+◌, ◌-◌, Bool, true, false, cond, not, ◌&&◌, ◌||◌, List, [], ◌∷◌, ◌==◌, nat_le, nat_lt, slice_index, slice_index_or}
use Rattle.machine.specs.declared.instruction.Instruction.{Instruction}
use Rattle.machine.specs.declared.instruction.Column.{Column}
use Rattle.machine.specs.declared.instruction.Column.TheVariants.{Zero, Any, Depth, Later}

abbrev pub STOP : ℕ
STOP = 0

abbrev pub ABANDON : ℕ
ABANDON = 1

abbrev pub PUSH : ℕ
PUSH = 2

abbrev pub DUP : ℕ
DUP = 4

abbrev pub SWAP : ℕ
SWAP = 5

abbrev pub READ : ℕ
READ = 10

abbrev pub WRITE : ℕ
WRITE = 11

abbrev pub JUMP : ℕ
JUMP = 12

abbrev pub JUMPZERO : ℕ
JUMPZERO = 13

-- the entries needed, which the instruction takes from the top; DUP and SWAP need their operand's number of entries more
abbrev pub needs : List ℕ
needs = 0 ∷ 0 ∷ 0 ∷ 1 ∷ 0 ∷ 1 ∷ 2 ∷ 2 ∷ 2 ∷ 2 ∷ 1 ∷ 2 ∷ 0 ∷ 1 ∷ []

-- the change in height, with 2 added so that no number is negative
abbrev pub changes : List ℕ
changes = 2 ∷ 2 ∷ 3 ∷ 1 ∷ 3 ∷ 2 ∷ 1 ∷ 1 ∷ 1 ∷ 1 ∷ 2 ∷ 0 ∷ 2 ∷ 1 ∷ []

-- the operand's column. 0: it is 0; 1: any; 2: 1 to 15; 3: a later place in the job
abbrev pub columns : List ℕ
columns = 0 ∷ 0 ∷ 1 ∷ 0 ∷ 2 ∷ 2 ∷ 0 ∷ 0 ∷ 0 ∷ 0 ∷ 0 ∷ 0 ∷ 3 ∷ 3 ∷ []

-- the column's number in that table
abbrev pub column_number : Column → ℕ
column_number Zero = 0
column_number Any = 1
column_number Depth = 2
column_number Later = 3

-- refusal 5 begins at code 14
unfoldable pub known : Instruction → Bool
known i = nat_le i.code 13

-- by column, whether x is in it, at place p of a job of n instructions
abbrev pub in_column : ℕ → ℕ → ℕ → List Bool
in_column n p x = (x == 0) ∷ true ∷ (nat_le 1 x && nat_le x 15) ∷ (nat_lt p x && nat_lt x n) ∷ []

unfoldable pub fits : ℕ → ℕ → Instruction → Bool
fits n p i = slice_index_or (in_column n p i.operand) (slice_index columns i.code) false

-- an instruction leads to the next place, and to its jump's place
unfoldable pub leads_on : Instruction → Bool
leads_on i = not (i.code == STOP || i.code == ABANDON || i.code == JUMP)

unfoldable pub jumps : Instruction → Bool
jumps i = i.code == JUMP || i.code == JUMPZERO

unfoldable pub need : Instruction → ℕ
need i = slice_index needs i.code + cond (slice_index columns i.code == 2) i.operand 0

-- the height after an instruction, from the height before it
unfoldable pub after : Instruction → ℕ → ℕ
after i h = h + slice_index changes i.code - 2
