-- Document 01, "The block paper" and "The checker's verdict": the verdict of a whole paper, field by field.
use Rattle.std.specs.Prelude.{ℕ, zero, suc, ◌+◌, ◌*◌, ◌/◌, ◌%◌, cond, not, ◌||◌, List, [], ◌∷◌, length, take, drop, ◌==◌, nat_lt, slice_index}
use Rattle.machine.specs.Limits.{JOBS}
use Rattle.machine.specs.Verdict.{Finding, sound, fault, and_then, job_verdict}
use Rattle.machine.specs.declared.instruction.Instruction.{Instruction}

-- the number that bytes make, low byte first
unfoldable pub little : List ℕ → ℕ
little [] = 0
little (b ∷ bs) = b + 256 * little bs

-- an instruction is 9 bytes: code, then an operand of 8 bytes
unfoldable pub instruction : List ℕ → Instruction
instruction bs = record { code = slice_index bs 0; operand = little (take 8 (drop 1 bs)) }

unfoldable pub instructions : ℕ → List ℕ → List Instruction
instructions zero bs = []
instructions (suc k) bs = instruction bs ∷ instructions k (drop 9 bs)

-- the field with which the bytes begin: a one-byte tag, a two-byte length, the contents
abbrev pub tag : List ℕ → ℕ
tag bs = slice_index bs 0

unfoldable pub size : List ℕ → ℕ
size bs = little (take 2 (drop 1 bs))

unfoldable pub job_of : List ℕ → List Instruction
job_of bs = instructions (size bs / 9) (drop 3 bs)

unfoldable pub later : List ℕ → List ℕ
later bs = drop (3 + size bs) bs

-- 1 to 4 of that field, with `more` jobs still allowed
unfoldable pub frame_of : ℕ → List ℕ → Finding
frame_of more bs =
    cond (nat_lt (length bs) 3) (fault 1 0)
    (cond (nat_lt (length bs) (3 + size bs)) (fault 1 0)
    (cond (not (tag bs == 16)) (fault 2 0)
    (cond (more == 0) (fault 3 0)
    (cond (size bs == 0 || nat_lt 576 (size bs) || not (size bs % 9 == 0)) (fault 4 0) sound))))

-- a field: 1, 2, 3, 4, and its job's verdict
unfoldable pub field_of : ℕ → List ℕ → Finding
field_of more bs = and_then (frame_of more bs) (job_verdict (job_of bs))

-- the answer to a paper: its jobs, or the refusal's number, field and place
pub data Answer : Type 0 where
  jobs : List (List Instruction) → Answer
  refused : ℕ → ℕ → ℕ → Answer

abbrev pub with : List Instruction → Answer → Answer
with j (jobs js) = jobs (j ∷ js)
with j (refused n f p) = refused n f p

-- the first fault found is the answer
abbrev pub on_sound : ℕ → Finding → Answer → Answer
on_sound f sound a = a
on_sound f (fault n p) a = refused n f p

-- nothing left, nothing to refuse
abbrev pub unless_end : List ℕ → Answer → Answer
unless_end [] a = jobs []
unless_end (b ∷ bs) a = a

-- field f and those after it, with `more` jobs still allowed: when none is, its frame refuses the field
unfoldable pub fields : ℕ → ℕ → List ℕ → Answer
fields zero f bs = unless_end bs (on_sound f (field_of 0 bs) (jobs []))
fields (suc more) f bs =
    let rest = with (job_of bs) (fields more (suc f) (later bs)) in
    unless_end bs (on_sound f (field_of (suc more) bs) rest)

-- the checker's answer to a paper
abbrev pub paper_answer : List ℕ → Answer
paper_answer bs = fields JOBS 1 bs

-- the number, field and place of a refusal; 0, 0 and 0 where there is none
abbrev pub refusal : Answer → ℕ × ℕ × ℕ
refusal (jobs js) = (0, 0, 0)
refusal (refused n f p) = (n, f, p)

abbrev pub job_count : Answer → ℕ
job_count (jobs js) = length js
job_count (refused n f p) = 0
