-- Document 01, "On the edge": the lines marked P, as one table with one statement over it. Each line is computed, by the definitions
-- that the contracts of `open`, `turn` and `settled_table` cite.
use Rattle.std.specs.Prelude.{◌≡◌, refl, Bool, true, List, [], ◌∷◌, ◌++◌, map, ℕ, ◌*◌, eqb, length, replicate}
use Rattle.theory.specs.Word as W
use Rattle.theory.specs.Engine as E
use Rattle.machine.specs.Limits.{CELLS}
use Rattle.machine.specs.Instruction.{known, fits, leads_on, jumps, need, after}
use Rattle.machine.specs.Machine.{stays, stack_after, place_after, moved, placed, suffices, ready, asked, act, Running, formed, sizes}
use Rattle.machine.specs.Verdict.{scan, form_of, form_at, end_of, brought, entries_at, size_of, flow_of, verdict_of}
use Rattle.machine.specs.Paper.{little, instruction, instructions, size, job_of, later, frame_of, field_of, fields}
use Rattle.rules.specs.Box.{box, limits}
use Rattle.turns.specs.Many.{words}
use Rattle.turns.specs.Open.{opened_by, open_block, open_answer}

-- an instruction: its code and its operand, which is a byte here
abbrev stop : ℕ × ℕ
stop = (0, 0)

abbrev push : ℕ → ℕ × ℕ
push x = (2, x)

abbrev pop : ℕ × ℕ
pop = (3, 0)

abbrev sub : ℕ × ℕ
sub = (7, 0)

abbrev jump : ℕ → ℕ × ℕ
jump p = (12, p)

abbrev jumpzero : ℕ → ℕ × ℕ
jumpzero p = (13, p)

abbrev bytes : List (ℕ × ℕ) → List ℕ
bytes [] = []
bytes (i ∷ is) = i.0 ∷ i.1 ∷ (replicate 7 0 ++ bytes is)

-- the paper of one job
abbrev job : List (ℕ × ℕ) → List ℕ
job is = 16 ∷ (9 * length is) ∷ 0 ∷ bytes is

-- what is asked of a paper that is opened on an all-zero table: the verdict; or what the turns of these tickets say; or the stack of ticket 1 after them
pub data Question : Type 0 where
  opening : List ℕ → Question
  turns : List ℕ → List ℕ → Question
  stack : List ℕ → List ℕ → Question

-- the refusal's number, field and place, all 0 where there is none; the words, f and whether the block is done; a stack, top first
pub data Answer : Type 0 where
  verdict : ℕ → ℕ → ℕ → Answer
  turned : List W.Word → ℕ → Bool → Answer
  holds : List ℕ → Answer

abbrev zeros : List ℕ
zeros = replicate CELLS 0

abbrev reached : List ℕ → List ℕ → E.Block Running
reached paper ts = E.turns limits box (open_block zeros paper) ts

abbrev f : E.Block Running → ℕ
f b = E.finals limits box b.jobs

-- a block is done when all its jobs are final
abbrev done : E.Block Running → Bool
done b = eqb (f b) (length b.jobs)

abbrev pub answer : Question → Answer
answer (opening paper) = verdict (open_answer zeros paper).0 (open_answer zeros paper).1 (open_answer zeros paper).2
answer (turns paper ts) = turned (words (open_block zeros paper) ts) (f (reached paper ts)) (done (reached paper ts))
answer (stack paper ts) = holds (E.job_at limits box (reached paper ts) 0).state.state.stack

-- a line of the table: what is asked, and what document 01 expects
pub record Line : Type 0 where
  pub question : Question
  pub expected : Answer

abbrev line : Question → Answer → Line
line q a = record { question = q; expected = a }

abbrev passes : Answer
passes = verdict 0 0 0

abbrev pub table : List Line
table =
    line (opening []) passes ∷
    line (turns [] []) (turned [] 0 true) ∷
    line (opening (16 ∷ 0 ∷ [])) (verdict 1 1 0) ∷
    line (opening (16 ∷ 0 ∷ 0 ∷ [])) (verdict 4 1 0) ∷
    line (turns (job (stop ∷ [])) (1 ∷ 1 ∷ [])) (turned (W.end ∷ W.final ∷ []) 1 true) ∷
    line (opening (job (pop ∷ stop ∷ []))) (verdict 9 1 0) ∷
    line (opening (job (replicate 17 (push 1) ++ (stop ∷ [])))) (verdict 9 1 16) ∷
    line (opening (job (jump 0 ∷ []))) (verdict 6 1 0) ∷
    line (opening (job (jump 1 ∷ stop ∷ []))) passes ∷
    line (opening (job (jump 2 ∷ stop ∷ stop ∷ []))) (verdict 8 1 1) ∷
    line (opening (job (push 0 ∷ jumpzero 3 ∷ push 1 ∷ stop ∷ []))) (verdict 10 1 3) ∷
    line (stack (job (push 5 ∷ push 3 ∷ sub ∷ stop ∷ [])) (1 ∷ 1 ∷ 1 ∷ [])) (holds (18446744073709551614 ∷ [])) ∷ []

pub on_the_edge : map answer (map (λ l. l.question) table) ≡ map (λ l. l.expected) table
unfolding words open_answer open_block opened_by E.turn E.turns E.block_fits E.job_fits E.move sizes formed fields field_of frame_of size later job_of little instruction instructions verdict_of flow_of size_of scan form_of form_at end_of brought entries_at need after known fits leads_on jumps act ready placed suffices asked moved stack_after stays place_after
on_the_edge = refl
