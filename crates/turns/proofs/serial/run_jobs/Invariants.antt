-- The table is that of the jobs so far,
-- and the next one alone on it makes that of one more.
use mathlib.Core.Path.{◌≡◌}
use lib.ListN.{length}
use Rattle.theory.specs.Serial.{serial}
use Rattle.rules.specs.Box.{box}
use Rattle.rules.specs.Steps.{AllPass}
use Rattle.turns.specs.SerialRun.{cells_of}
use Rattle.turns.specs.Alone.{starts}
use Rattle.turns.proofs.serial.run_jobs.Given as goal

abbrev pub invariant-loop-job : goal.invariant-loop-job
invariant-loop-job l = AllPass l.jobs (length l.jobs) × (length l.table ≡ 256) × (cells_of l.table ≡ serial box (cells_of l.initial.table) (starts l.jobs) l.job-index)
