-- What the structs of the code stand for: a stack is the list of its entries, top first; a job is the list of its instructions.
-- Entries past a count stand for nothing.
use Rattle.std.specs.Prelude.{◌≡◌, ℕ, zero, suc, ◌<◌, List, [], ◌∷◌, map, length, replicate, slice_index, Result, Ok, Err, refl}
use Rattle.std.proofs.Common.{ap, arith}
use Rattle.theory.specs.Lists.{firsts}
use Rattle.theory.specs.Promise.{Act, nothing, read, write, stop, abandon, stuck}
use Rattle.machine.specs.Limits.{ROOM}
use Rattle.machine.specs.Machine.{State, stopping, act, stepped}
use Rattle.machine.specs.declared.instruction.Instruction.{Instruction}
use Rattle.machine.specs.declared.job.Stack.{Stack}
use Rattle.machine.specs.declared.job.State.{State as CodeState}
use Rattle.machine.specs.declared.job.Job.{Job}
use Rattle.machine.specs.Verdict.{Finding, sound, fault}
use Rattle.machine.specs.Paper.{Answer, jobs, refused, job_count, field_of, job_of}
use Rattle.machine.specs.declared.paper.Jobs.{Jobs as CodeJobs}
use Rattle.machine.specs.declared.paper.Refusal.{Refusal}
use Rattle.machine.specs.declared.verdict.Fault.{Fault}
use Rattle.machine.specs.declared.verdict.Fault.TheVariants.{Head, Tag, Jobs, Length, Code, Operand, LeadsOn, NotLed, Entries, Heights, TooMany}
use Rattle.machine.specs.declared.verdict.Flaw.{Flaw}
use Rattle.machine.specs.declared.step.Act.{Act as CodeAct}
use Rattle.machine.specs.declared.step.Act.TheVariants.{Nothing, Read, Write, Stop, Abandon, Stuck}

abbrev pub tops : ℕ → List ℕ → List ℕ
tops zero es = []
tops (suc h) es = slice_index es h ∷ tops h es

pub length_tops : (h : ℕ) (es : List ℕ) → length (tops h es) ≡ h
length_tops zero es = refl
length_tops (suc h) es = ap suc (length_tops h es)

abbrev pub stack_of : Stack → List ℕ
stack_of s = tops s.height s.entries

abbrev pub state_of : CodeState → State
state_of s = record { place = s.place.0; stack = stack_of s.stack }

-- the state in which a job starts, to the last byte
abbrev pub fresh_state : CodeState
fresh_state = record { place = record { 0 = 0 }; stack = record { entries = replicate ROOM 0; height = 0 } }

-- what an instruction asked, where t is the state after it
abbrev pub act_of : CodeAct → State → Act State
act_of Nothing t = nothing t
act_of (Read c) t = read c.0
act_of (Write c v) t = write c.0 v t
act_of Stop t = stop
act_of Abandon t = abandon
act_of Stuck t = stuck

-- the whole answer to one instruction: what it asks, and the state after it
pub record Steps (room n : ℕ) (i : Instruction) (s : State) (a : CodeAct) (t : State) : Type 0 where
  pub asks : act_of a t ≡ act room n i s
  pub leaves : t ≡ stepped room n i s

abbrev pub code_of : Job → List Instruction
code_of j = firsts j.size stopping j.code

-- document 01's number of each refusal of a block paper
abbrev pub number : Fault → ℕ
number Head = 1
number Tag = 2
number Jobs = 3
number Length = 4
number Code = 5
number Operand = 6
number LeadsOn = 7
number NotLed = 8
number Entries = 9
number Heights = 10
number TooMany = 11

pub number_some : (f : Fault) → 0 < number f
number_some Head = omega arith
number_some Tag = omega arith
number_some Jobs = omega arith
number_some Length = omega arith
number_some Code = omega arith
number_some Operand = omega arith
number_some LeadsOn = omega arith
number_some NotLed = omega arith
number_some Entries = omega arith
number_some Heights = omega arith
number_some TooMany = omega arith

-- what a check tells: nothing found, whatever it hands on then, or a fault at a place
unfoldable pub finding_of : {T : Type 0} → Result T Flaw → Finding
finding_of (Ok t) = sound
finding_of (Err e) = fault (number e.fault) e.place.0

-- what looking at a field gives, where bs are the bytes from its start on
pub record Takes (more : ℕ) (bs : List ℕ) (r : Result Job Flaw) : Type 0 where
  pub check : finding_of r ≡ field_of more bs
  pub job : (j : Job) → r ≡ Ok j → code_of j ≡ job_of bs

-- a job past the array's end
abbrev pub no_job : Job
no_job = record { code = []; size = 0 }

-- what the checker's answer stands for
abbrev pub answer_of : Result CodeJobs Refusal → Answer
answer_of (Ok js) = jobs (map code_of (firsts js.count no_job js.jobs))
answer_of (Err e) = refused (number e.fault) e.field.0 e.place.0

-- the jobs that it hands on: none of a refused paper
abbrev pub count_of : Result CodeJobs Refusal → ℕ
count_of (Ok js) = js.count
count_of (Err e) = 0

pub record Answers (r : Result CodeJobs Refusal) (a : Answer) : Type 0 where
  pub answer : answer_of r ≡ a
  pub count : count_of r ≡ job_count a
