-- Document 01's serial run: 12 first, then the checker's refusals; else all jobs run, one after another, and the output is written whole.
use Rattle.std.specs.Prelude.{◌≡◌, not, cond, List, [], ℕ, eqb, length, get_or, Result}
use Rattle.theory.specs.Lists.{tab}
use Rattle.theory.specs.Serial.{serial}
use Rattle.machine.specs.Limits.{CELLS}
use Rattle.machine.specs.Machine.{starting}
use Rattle.machine.specs.Paper.{Answer, jobs, refused, refusal, paper_answer}
use Rattle.machine.specs.declared.instruction.Instruction.{Instruction}
use Rattle.rules.specs.Box.{box}
use Rattle.turns.specs.Open.{opening_of}
use Rattle.turns.specs.declared.open.OpenRefusal.{OpenRefusal}

-- the cells of a table
abbrev pub cells_of : List ℕ → ℕ → ℕ
cells_of table c = get_or table c 0

-- the cells after all jobs ran, from the start table
unfoldable pub ran_on : List ℕ → List (List Instruction) → ℕ → ℕ
ran_on start js = serial box (cells_of start) (λ k. starting (get_or js k [])) (length js)

-- the output table after an answer of the checker: whole, or untouched
unfoldable pub output_after : List ℕ → List ℕ → Answer → List ℕ
output_after start output (jobs js) = tab CELLS (ran_on start js)
output_after start output (refused n f p) = output

-- both tables are tested for 12
unfoldable pub unless_wrong : {A : Type 0} → List ℕ → List ℕ → A → A → A
unless_wrong start output wrong fine = cond (not (eqb (length start) CELLS)) wrong (cond (not (eqb (length output) CELLS)) wrong fine)

-- the number, field and place of the refusal; 0, 0 and 0 where it ran
unfoldable pub serial_answer : List ℕ → List ℕ → List ℕ → ℕ × ℕ × ℕ
serial_answer start output paper = unless_wrong start output (12, 0, 0) (refusal (paper_answer paper))

-- the output table after the run
unfoldable pub serial_table : List ℕ → List ℕ → List ℕ → List ℕ
serial_table start output paper = unless_wrong start output output (output_after start output (paper_answer paper))

-- the whole of a serial run: the answer, and the output table after it
pub record Serves (start output paper : List ℕ) (r : Result Unit OpenRefusal) (after : List ℕ) : Type 0 where
  pub answer : opening_of r ≡ serial_answer start output paper
  pub table : after ≡ serial_table start output paper
