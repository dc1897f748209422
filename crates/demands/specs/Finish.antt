-- Demand 2 as a promise of code: open a paper, give a list of tickets their turns, settle. The table is then the serial run of the first f
-- jobs, and f is the number of turns whose word was final.
use Rattle.std.specs.Prelude.{◌≡◌, not, cond, ◌||◌, List, [], map, ℕ, eqb, length, get_or, Result, Ok, Err}
use Rattle.theory.specs.Engine as E
use Rattle.theory.specs.Histories.{final_turns}
use Rattle.theory.specs.Serial.{serial}
use Rattle.machine.specs.Limits.{CELLS}
use Rattle.machine.specs.Machine.{starting}
use Rattle.machine.specs.Paper.{Answer, jobs, refused, paper_answer}
use Rattle.machine.specs.View.{number}
use Rattle.machine.specs.declared.instruction.Instruction.{Instruction}
use Rattle.rules.specs.Box.{box, limits}
use Rattle.turns.specs.Many.{bytes, if_long}
use Rattle.turns.specs.Open.{open_block}
use Rattle.turns.specs.SerialRun.{cells_of}
use Rattle.turns.specs.Settled.{f_of}
use Rattle.turns.specs.declared.open.OpenRefusal.{OpenRefusal}
use Rattle.turns.specs.declared.open.OpenRefusal.TheVariants.{WrongTable as WrongStart, Paper as WrongPaper}
use Rattle.demands.specs.declared.finish.FinishRefusal.{FinishRefusal}
use Rattle.demands.specs.declared.finish.FinishRefusal.TheVariants.{WrongTable, Paper, WrongLength}

-- it is refused with a number, field and place, or it runs these jobs
pub data Outcome : Type 0 where
  refused_by : ℕ → ℕ → ℕ → Outcome
  ran : List (List Instruction) → Outcome

-- the paper's refusals, then 15 for the bytes lent
unfoldable pub opened : Answer → List ℕ → List ℕ → Outcome
opened (jobs js) ts words = if_long ts words (ran js) (refused_by 15 0 0)
opened (refused n f p) ts words = refused_by n f p

-- 12 for either table first
unfoldable pub outcome : List ℕ → List ℕ → List ℕ → List ℕ → List ℕ → Outcome
outcome start paper ts words table = cond (not (eqb (length start) CELLS) || not (eqb (length table) CELLS)) (refused_by 12 0 0) (opened (paper_answer paper) ts words)

-- an opening's refusal
abbrev pub opening_as : OpenRefusal → FinishRefusal
opening_as WrongStart = WrongTable
opening_as (WrongPaper e) = Paper e

-- document 01's number, field and place of each refusal; 0, 0 and 0 where it ran
unfoldable pub numbers_of : {T : Type 0} → Result T FinishRefusal → ℕ × ℕ × ℕ
numbers_of (Ok t) = (0, 0, 0)
numbers_of (Err WrongTable) = (12, 0, 0)
numbers_of (Err (Paper e)) = (number e.fault, e.field.0, e.place.0)
numbers_of (Err WrongLength) = (15, 0, 0)

unfoldable pub numbers : Outcome → ℕ × ℕ × ℕ
numbers (refused_by n f p) = (n, f, p)
numbers (ran js) = (0, 0, 0)

-- the serial run of the first f of these jobs, cell by cell
unfoldable pub first_run : List ℕ → List (List Instruction) → ℕ → List ℕ
first_run start js f = map (serial box (cells_of start) (λ k. starting (get_or js k [])) f) (E.up_to limits box CELLS)

-- what stands after a refusal, or after a run
unfoldable pub afterwards : {A : Type 0} → Outcome → A → (List (List Instruction) → A) → A
afterwards (refused_by n f p) before done = before
afterwards (ran js) before done = done js

-- the whole of it: the answer, f, the bytes and the table afterwards
pub record Finishes (start paper ts words table : List ℕ) (r : Result ℕ FinishRefusal) (words' table' : List ℕ) : Type 0 where
  pub answer : numbers_of r ≡ numbers (outcome start paper ts words table)
  pub count : f_of r ≡ afterwards (outcome start paper ts words table) 0 (λ js. final_turns limits box (open_block start paper) ts)
  pub bytes : words' ≡ afterwards (outcome start paper ts words table) words (λ js. bytes (open_block start paper) ts)
  pub settled : table' ≡ afterwards (outcome start paper ts words table) table (λ js. first_run start js (f_of r))
