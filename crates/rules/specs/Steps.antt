-- The instruction at which a job stands, and jobs that passed the checker.
use Rattle.std.specs.Prelude.{List, ℕ, ◌<◌, length, get_or}
use Rattle.theory.specs.Promise.{Passed}
use Rattle.machine.specs.Limits.{ROOM, FEW}
use Rattle.machine.specs.Machine.{current, starting}
use Rattle.machine.specs.View.{state_of, code_of, no_job, Steps}
use Rattle.machine.specs.declared.instruction.Instruction.{Instruction}
use Rattle.machine.specs.declared.job.Job.{Job}
use Rattle.machine.specs.declared.job.State.{State}
use Rattle.machine.specs.declared.step.Stepped.{Stepped}
use Rattle.rules.specs.Box.{box, box_checked}
use Rattle.rules.specs.Block.{running_of}

-- the answer to the instruction at which a job stands
pub record StepsIn (is : List Instruction) (s : State) (r : Stepped) : Type 0 where
  pub steps : Steps ROOM (length is) (current (running_of is s)) (state_of s) r.act (state_of r.state)

-- a job that passed
pub record Passes (j : Job) : Type 0 where
  pub passed : Passed box box_checked FEW (starting (code_of j))

pub record AllPass (js : List Job) (n : ℕ) : Type 0 where
  pub pass : (k : ℕ) → k < n → Passes (get_or js k no_job)
