-- Between two instructions, what the job has still to do is the rest of its whole run;
-- each instruction leaves fewer ahead.
use Rattle.machine.specs.View.{code_of}
use Rattle.rules.specs.Box.{box}
use Rattle.rules.specs.Block.{running_of}
use Rattle.turns.specs.SerialRun.{cells_of}
use Rattle.turns.specs.Alone.{Runs}
use Rattle.turns.proofs.serial.run_alone.Given as goal

abbrev pub invariant-steps : goal.invariant-steps
invariant-steps l = Runs (code_of l.job) (cells_of l.table) l.a

abbrev pub decreases-steps : goal.decreases-steps
decreases-steps l = box.left (running_of (code_of l.job) l.a.state)
