-- The tests stand in the definition's order,
-- and the first that fails is the answer.
use Rattle.std.proofs.Common.{arith}
use Rattle.std.proofs.lemmas.Grind.{common_steps}
use Rattle.rules.specs.Sizes.{job_within, bytes_are}
use Rattle.rules.proofs.sizes.job_fits.Goals as goal

pub returns-then-reads_fit : goal.returns-then-reads_fit
unfolding job_within
returns-then-reads_fit c = grind (arith, common_steps, bytes_are c.args.job.now)

pub returns-else-reads_fit : goal.returns-else-reads_fit
unfolding job_within
returns-else-reads_fit c = grind (arith, common_steps, bytes_are c.args.job.now)
