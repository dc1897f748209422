-- Document 01, "Opening": 12 for the start table, then the checker's refusals; else every job of the paper is fresh.
use Rattle.std.specs.Prelude.{◌≡◌, not, cond, List, [], map, ℕ, ◌*◌, eqb, length, get_or, replicate, Result, Ok, Err}
use Rattle.theory.specs.Lists.{tab}
use Rattle.theory.specs.Engine as E
use Rattle.machine.specs.Limits.{FEW, JOBS, CELLS}
use Rattle.machine.specs.Machine.{Running, starting}
use Rattle.machine.specs.Paper.{Answer, jobs, refused, refusal, paper_answer}
use Rattle.machine.specs.View.{fresh_state, number}
use Rattle.machine.specs.declared.instruction.Instruction.{Instruction}
use Rattle.rules.specs.Box.{box, limits}
use Rattle.rules.specs.View.{empty_journal, empty_versions, empty_reads}
use Rattle.rules.specs.Program.{no_program, program_of, all_packed}
use Rattle.rules.specs.Block.{block_of}
use Rattle.rules.specs.declared.block.Block.{Block}
use Rattle.rules.specs.declared.block.Program.{Program}
use Rattle.turns.specs.declared.open.Opened.{Opened}
use Rattle.turns.specs.declared.open.OpenRefusal.{OpenRefusal}
use Rattle.turns.specs.declared.open.OpenRefusal.TheVariants.{WrongTable, Paper}

-- no jobs, so no final jobs, and an all-zero table
unfoldable pub nothing_open : E.Block Running
nothing_open = record { table = replicate CELLS 0; jobs = [] }

-- the block after an answer of the checker
unfoldable pub opened_by : List ℕ → Answer → E.Block Running
opened_by start (jobs js) = E.opened limits box start (map starting js)
opened_by start (refused n f p) = nothing_open

-- the block that an opening yields
unfoldable pub open_block : List ℕ → List ℕ → E.Block Running
open_block start paper = cond (not (eqb (length start) CELLS)) nothing_open (opened_by start (paper_answer paper))

-- the number, field and place of the refusal; 0, 0 and 0 where the paper is accepted
unfoldable pub open_answer : List ℕ → List ℕ → ℕ × ℕ × ℕ
open_answer start paper = cond (not (eqb (length start) CELLS)) (12, 0, 0) (refusal (paper_answer paper))

-- document 01's number, field and place of each refusal; 0, 0 and 0 where there is none
unfoldable pub opening_of : {T : Type 0} → Result T OpenRefusal → ℕ × ℕ × ℕ
opening_of (Ok t) = (0, 0, 0)
opening_of (Err WrongTable) = (12, 0, 0)
opening_of (Err (Paper e)) = (number e.fault, e.field.0, e.place.0)

-- ---- the same to the last byte
-- a block of n jobs at their start, with these programs
unfoldable pub filled_block : List ℕ → ℕ → List Program → Block
filled_block table n ps = record {
  start = table;
  count = n;
  jobs = ps;
  states = replicate JOBS fresh_state;
  status = replicate JOBS 0;
  journals = replicate JOBS empty_journal;
  versions = replicate JOBS empty_versions;
  reads = replicate JOBS empty_reads;
  checkpoints = replicate (FEW * JOBS) (record { state = fresh_state; writes = 0; listed = 0 });
}

-- .. with those of these jobs
unfoldable pub whole_block : List ℕ → List (List Instruction) → Block
whole_block table js = filled_block table (length js) (all_packed js)

unfoldable pub whole_by : List ℕ → Answer → Block
whole_by start (jobs js) = whole_block start js
whole_by start (refused n f p) = whole_block (replicate CELLS 0) []

-- the block that an opening yields
unfoldable pub open_whole : List ℕ → List ℕ → Block
open_whole start paper = cond (not (eqb (length start) CELLS)) (whole_block (replicate CELLS 0) []) (whole_by start (paper_answer paper))

-- the whole of an opening
pub record Opens (start paper : List ℕ) (r : Opened) : Type 0 where
  pub answer : opening_of r.answer ≡ open_answer start paper
  pub block : block_of r.block ≡ open_block start paper
  pub whole : r.block ≡ open_whole start paper

-- ---- the parts
-- the first n jobs, each at its start
unfoldable pub fresh_block : List ℕ → ℕ → List Program → E.Block Running
fresh_block table n ps = record { table = table; jobs = tab n (λ k. E.fresh (starting (program_of (get_or ps k no_program)))) }
