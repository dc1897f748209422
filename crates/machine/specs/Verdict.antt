-- Document 01, "The checker's verdict": the verdict of one job, over the limits as parameters. Every pass is a function of the place.
use Rattle.std.specs.Prelude.{ℕ, zero, suc, ◌+◌, ◌-◌, Bool, true, false, cond, ◌&&◌, ◌||◌, List, length, replicate, ◌==◌, nat_le, nat_lt, slice_index_or, slice_set}
use Rattle.machine.specs.Instruction.{READ, WRITE, known, fits, leads_on, jumps, need, after}
use Rattle.machine.specs.Machine.{stopping}
use Rattle.machine.specs.Limits.{LONGEST, ROOM, FEW}
use Rattle.machine.specs.declared.instruction.Instruction.{Instruction}
use Rattle.machine.specs.declared.verdict.Met.{Met}
use Rattle.machine.specs.declared.verdict.Met.TheVariants.{Nobody, Height, Clash}

-- a check finds nothing, or a fault: its number in document 01, and the place
pub data Finding : Type 0 where
  sound : Finding
  fault : ℕ → ℕ → Finding

-- the first fault found is the answer
abbrev pub and_then : Finding → Finding → Finding
and_then sound f = f
and_then (fault n p) f = fault n p

-- place by place: k places from p on
unfoldable pub scan : (ℕ → Finding) → ℕ → ℕ → Finding
scan f p zero = sound
scan f p (suc k) = let later = scan f (suc p) k in and_then (f p) later

abbrev pub at : List Instruction → ℕ → Instruction
at is p = slice_index_or is p stopping

-- how many of the places before p hold this code
unfoldable pub count : List Instruction → ℕ → ℕ → ℕ
count is c zero = 0
count is c (suc p) = count is c p + cond ((at is p).code == c) 1 0

-- 5, 6, 11 of instruction i at place p of a job of n, after so many READ and so many WRITE
unfoldable pub form_of : ℕ → ℕ → ℕ → Instruction → ℕ → ℕ → Finding
form_of few n p i reads writes =
    cond (known i)
    (cond (fits n p i)
    (cond ((i.code == READ && nat_le few reads) || (i.code == WRITE && nat_le few writes)) (fault 11 p) sound)
    (fault 6 p))
    (fault 5 p)

unfoldable pub form_at : ℕ → List Instruction → ℕ → Finding
form_at few is p = form_of few (length is) p (at is p) (count is READ p) (count is WRITE p)

-- 7: the last instruction would lead on
unfoldable pub end_of : List Instruction → Finding
end_of is = cond (leads_on (at is (length is - 1))) (fault 7 (length is - 1)) sound

-- a height is brought to a place of which m is known; the one first brought is kept
abbrev pub meet : Met → ℕ → Met
meet Nobody h = Height h
meet (Height g) h = cond (g == h) (Height g) (Clash g)
meet (Clash g) h = Clash g

abbrev pub bring : Bool → ℕ → ℕ → List Met → List Met
bring true t h ms = slice_set ms t (meet (slice_index_or ms t Nobody) h)
bring false t h ms = ms

-- what instruction i at p brings to the places that it leads to, where m is known of its own
abbrev pub lead : Instruction → ℕ → Met → List Met → List Met
lead i p (Height h) ms = bring (jumps i) i.operand (after i h) (bring (leads_on i) (suc p) (after i h) ms)
lead i p Nobody ms = ms
lead i p (Clash h) ms = ms

-- what the places before p bring to each place; place 0 has height 0
unfoldable pub brought : ℕ → List Instruction → ℕ → List Met
brought longest is zero = slice_set (replicate longest Nobody) 0 (Height 0)
brought longest is (suc p) = let ms = brought longest is p in lead (at is p) p (slice_index_or ms p Nobody) ms

-- 8: no earlier place leads here, to p, of which m is known
abbrev pub led_of : ℕ → Met → Finding
led_of p Nobody = fault 8 p
led_of p (Height h) = sound
led_of p (Clash h) = sound

-- 10: two heights meet here
abbrev pub meeting_of : ℕ → Met → Finding
meeting_of p Nobody = sound
meeting_of p (Height h) = sound
meeting_of p (Clash h) = fault 10 p

-- 9 of instruction i at height h: too few entries, or more than the room left
abbrev pub found_of : ℕ → Instruction → ℕ → ℕ → Finding
found_of room i p h = cond (nat_le (need i) h && nat_le (after i h) room) sound (fault 9 p)

-- 9 at the height first brought here, whether or not others clash with it
abbrev pub height_of : ℕ → Instruction → ℕ → Met → Finding
height_of room i p Nobody = sound
height_of room i p (Height h) = found_of room i p h
height_of room i p (Clash h) = found_of room i p h

-- 8, 10, 9 of instruction i at place p, of which m is known
abbrev pub entries_of : ℕ → Instruction → ℕ → Met → Finding
entries_of room i p m = and_then (led_of p m) (and_then (meeting_of p m) (height_of room i p m))

unfoldable pub entries_at : ℕ → ℕ → List Instruction → ℕ → Finding
entries_at room longest is p = entries_of room (at is p) p (slice_index_or (brought longest is p) p Nobody)

-- 4, of a job and not of a field: it has no instruction, or too many
unfoldable pub size_of : ℕ → ℕ → Finding
size_of longest n = cond (n == 0 || nat_lt longest n) (fault 4 0) sound

-- 7; then place by place 8, 10, 9
unfoldable pub flow_of : ℕ → ℕ → List Instruction → Finding
flow_of longest room is = and_then (end_of is) (scan (entries_at room longest is) 0 (length is))

-- the verdict of a job: place by place 5, 6, 11; then 7; then place by place 8, 10, 9
unfoldable pub verdict_of : ℕ → ℕ → ℕ → List Instruction → Finding
verdict_of longest room few is = and_then (size_of longest (length is)) (and_then (scan (form_at few is) 0 (length is)) (flow_of longest room is))

abbrev pub job_verdict : List Instruction → Finding
job_verdict is = verdict_of LONGEST ROOM FEW is
