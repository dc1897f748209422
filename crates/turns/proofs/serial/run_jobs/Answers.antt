-- The table is that of the jobs so far,
-- and the next one alone on it makes that of one more.
use mathlib.Core.Path.{◌≡◌}
use native.Mathlib.Omega.{arith}
use lib.ListN.{length}
use Rattle.turns.proofs.Laws.Serial.{by_cells, jobs_start, jobs_on}
use Rattle.turns.proofs.serial.run_jobs.Goals as goal

pub loop-job-init : goal.loop-job-init
loop-job-init c = (c.requires, c.told-table, jobs_start _ _)

pub loop-job-preserved : goal.loop-job-preserved
loop-job-preserved c = let g = c.loop-job.invariant in (g.0, c.run_job.array_long, jobs_on _ _ _ _ _ g.2 c.run_job.ensures)

pub returns : goal.returns
returns c =
    let g = c.loop-job.invariant in
    let e : c.loop-job.job-index ≡ length c.args.jobs.now = omega (arith, c.loop-job-test.false, c.loop-job.auto.job-index-end) in
    by_cells _ _ _ g.1 (rw e at g.2)
