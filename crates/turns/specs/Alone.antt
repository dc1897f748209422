-- A job alone on a table, on the code's own structs: what one instruction keeps, and what the writes do that the job leaves.
use Rattle.std.specs.Prelude.{◌≡◌, List, [], ℕ, suc, ◌+◌, ◌≤◌, ◌<◌, get_or}
use Rattle.theory.specs.Every.{Every}
use Rattle.theory.specs.Serial.{over, solo, alone}
use Rattle.machine.specs.Limits.{FEW, CELLS}
use Rattle.machine.specs.Machine.{Running, start, starting}
use Rattle.machine.specs.View.{state_of, code_of, no_job}
use Rattle.machine.specs.declared.instruction.Instruction.{Instruction}
use Rattle.machine.specs.declared.job.Job.{Job}
use Rattle.rules.specs.Box.{box, box_checked}
use Rattle.rules.specs.View.{journal_of}
use Rattle.rules.specs.Block.{running_of}
use Rattle.rules.specs.declared.block.Journal.{Journal}
use Rattle.turns.specs.declared.serial.Alone.{Alone}
use Rattle.std.specs.declared.ops.ControlFlow.{ControlFlow}
use Rattle.std.specs.declared.ops.ControlFlow.TheVariants.{Continue, Break}

-- a journal of few entries, each for a cell of the table
pub record Writes (j : Journal) : Type 0 where
  pub few : j.size ≤ FEW
  pub cells : Every (λ e. e.cell < CELLS) (journal_of j)

-- the journal that a job leaves: over the table, it is the job alone
pub record Leaves (is : List Instruction) (table : ℕ → ℕ) (j : Journal) : Type 0 where
  pub writes : Writes j
  pub does : over (journal_of j) table ≡ alone box table (starting is)

-- a job that runs: what it has still to do is the rest of the whole, and its journal has room for what it may still write
pub record Runs (is : List Instruction) (table : ℕ → ℕ) (a : Alone) : Type 0 where
  pub writes : Writes a.journal
  pub ok : box_checked.Ok (running_of is a.state)
  pub room : a.journal.size + box_checked.writes_left (running_of is a.state) ≤ FEW
  pub rest : solo box (suc (box.left (running_of is a.state))) table (journal_of a.journal) (running_of is a.state) ≡ alone box table (starting is)

-- a job alone at its start
pub record Begins (a : Alone) : Type 0 where
  pub state : state_of a.state ≡ start
  pub empty : journal_of a.journal ≡ []

-- a job alone after one instruction, with fewer ahead
pub record RunsOn (is : List Instruction) (table : ℕ → ℕ) (a b : Alone) : Type 0 where
  pub runs : Runs is table b
  pub less : box.left (running_of is b.state) < box.left (running_of is a.state)

-- .. or its end
abbrev pub GoesOn : List Instruction → (ℕ → ℕ) → Alone → ControlFlow Journal Alone → Type 0
GoesOn is table a (Continue b) = RunsOn is table a b
GoesOn is table a (Break j) = Leaves is table j

-- the jobs of the code, each at its start
abbrev pub starts : List Job → ℕ → Running
starts js k = starting (code_of (get_or js k no_job))
