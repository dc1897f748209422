-- Document 01, "The block paper": one instruction on a place and a stack, as a program on lists. A stack is a list, top first.
use Rattle.std.specs.Prelude.{ℕ, zero, suc, ◌+◌, ◌-◌, ◌%◌, ◌^◌, Bool, true, cond, not, ◌&&◌, ◌||◌, List, [], ◌∷◌, ◌++◌, length, drop, ◌==◌, nat_le, nat_lt, slice_index, slice_index_or, slice_set}
use Rattle.theory.specs.Promise.{Act, nothing, read, write, stop, abandon, stuck, Machine}
use Rattle.machine.specs.Instruction.{STOP, ABANDON, SWAP, READ, WRITE, JUMP, JUMPZERO, needs, known, fits, leads_on, need, after}
use Rattle.machine.specs.Limits.{CELLS}
use Rattle.machine.specs.declared.instruction.Instruction.{Instruction}

-- the cell that a popped number names
abbrev pub cell_of : ℕ → ℕ
cell_of x = x % CELLS

-- words have 64 bits
abbrev pub words : ℕ
words = 2 ^ 64

pub record State : Type 0 where
  pub place : ℕ
  pub stack : List ℕ

abbrev pub start : State
start = record { place = 0; stack = [] }

abbrev pub top : List ℕ → ℕ
top st = slice_index st 0

abbrev pub next : List ℕ → ℕ
next st = slice_index st 1

-- 1 if the test holds, else 0
abbrev pub bit : Bool → ℕ
bit b = cond b 1 0

abbrev pub sum : ℕ → ℕ → ℕ
sum a b = (a + b) % words

-- a − b modulo 2^64, for words a and b
abbrev pub difference : ℕ → ℕ → ℕ
difference a b = (a + (words - b)) % words

abbrev pub less : ℕ → ℕ → ℕ
less a b = bit (nat_lt a b)

abbrev pub equal : ℕ → ℕ → ℕ
equal a b = bit (a == b)

-- by code: what an instruction with operand x puts in place of the entries that it takes; READ puts the value v
abbrev pub puts : ℕ → ℕ → List ℕ → List (List ℕ)
puts x v st =
    [] ∷
    [] ∷
    (x ∷ []) ∷
    [] ∷
    (slice_index st (x - 1) ∷ []) ∷
    (slice_index st x ∷ []) ∷
    (sum (top st) (next st) ∷ []) ∷
    (difference (top st) (next st) ∷ []) ∷
    (less (top st) (next st) ∷ []) ∷
    (equal (top st) (next st) ∷ []) ∷
    (v ∷ []) ∷
    [] ∷
    [] ∷
    [] ∷ []

-- what stays below them: of SWAP, the old top has become the k-th below the new one
unfoldable pub stays : Instruction → List ℕ → List ℕ
stays i st = cond (i.code == SWAP) (slice_set (drop 1 st) (i.operand - 1) (top st)) (drop (slice_index needs i.code) st)

unfoldable pub stack_after : Instruction → ℕ → List ℕ → List ℕ
stack_after i v st = slice_index_or (puts i.operand v st) i.code [] ++ stays i st

-- a jump is taken to the operand's place; STOP and ABANDON stay; all others go to the next place
unfoldable pub place_after : Instruction → State → ℕ
place_after i s =
    cond (i.code == JUMP || (i.code == JUMPZERO && top s.stack == 0)) i.operand
    (cond (i.code == STOP || i.code == ABANDON) s.place (suc s.place))

unfoldable pub moved : Instruction → ℕ → State → State
moved i v s = record { place = place_after i s; stack = stack_after i v s.stack }

-- instruction i stands at a place p of a job of n, keeps to 5 and 6, and has a next place if it leads on
unfoldable pub placed : ℕ → Instruction → ℕ → Bool
placed n i p = nat_lt p n && known i && fits n p i && (not (leads_on i) || nat_lt (suc p) n)

-- a stack of height h is within its room, has the entries that i needs, and room for what i leaves
unfoldable pub suffices : ℕ → Instruction → ℕ → Bool
suffices room i h = nat_le h room && nat_le (need i) h && nat_le (after i h) room

-- nothing that the instruction needs is missing: no stack entry, place or room
unfoldable pub ready : ℕ → ℕ → Instruction → State → Bool
ready room n i s = placed n i s.place && suffices room i (length s.stack)

unfoldable pub asked : Instruction → State → Act State
asked i s =
    cond (i.code == STOP) stop
    (cond (i.code == ABANDON) abandon
    (cond (i.code == READ) (read (cell_of (top s.stack)))
    (cond (i.code == WRITE) (write (cell_of (top s.stack)) (next s.stack) (moved i 0 s)) (nothing (moved i 0 s)))))

-- what the instruction asks of its surroundings, and the state after it, before a READ is given its value
unfoldable pub act : ℕ → ℕ → Instruction → State → Act State
act room n i s = cond (ready room n i s) (asked i s) stuck

unfoldable pub stepped : ℕ → ℕ → Instruction → State → State
stepped room n i s = cond (ready room n i s) (moved i 0 s) s

-- a READ's value takes the place of the cell number; a stack past its room is left alone
unfoldable pub given : ℕ → ℕ → State → State
given room v s = record { place = s.place; stack = cond (nat_le (length s.stack) room) (slice_set s.stack 0 v) s.stack }

-- ---- a job in its run: the machine that the engine knows by its promise
pub record Running : Type 0 where
  pub code : List Instruction
  pub state : State

abbrev pub stopping : Instruction
stopping = record { code = STOP; operand = 0 }

abbrev pub current : Running → Instruction
current j = slice_index_or j.code j.state.place stopping

abbrev pub in_job : List Instruction → Act State → Act Running
in_job is (nothing s) = nothing (record { code = is; state = s })
in_job is (read c) = read c
in_job is (write c v s) = write c v (record { code = is; state = s })
in_job is stop = stop
in_job is abandon = abandon
in_job is stuck = stuck

abbrev pub starting : List Instruction → Running
starting is = record { code = is; state = start }

-- the sizes of a job in its run: its instructions are few and keep to 5 and 6, its place is in the job, and its stack within its room
unfoldable pub formed : List Instruction → ℕ → ℕ → Bool
formed is n zero = true
formed is n (suc p) = known (slice_index_or is p stopping) && fits n p (slice_index_or is p stopping) && formed is n p

unfoldable pub sizes : ℕ → ℕ → Running → Bool
sizes longest room j =
    nat_le (length j.code) longest && formed j.code (length j.code) (length j.code) && nat_lt j.state.place (length j.code)
    && nat_le (length j.state.stack) room

abbrev pub machine : ℕ → ℕ → Machine
machine longest room = record {
  S = Running;
  act = λ j. in_job j.code (act room (length j.code) (current j) j.state);
  given = λ j v. record { code = j.code; state = moved (current j) v j.state };
  left = λ j. length j.code - j.state.place;
  fits = sizes longest room;
  nowhere = starting [];
}
