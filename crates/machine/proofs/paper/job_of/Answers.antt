-- The instructions so far, joined to those still to be read,
-- are all the instructions.
use Rattle.std.proofs.Common.{◌/◌, length, rules}
use Rattle.machine.proofs.Laws.Paper.{job_on, job_of_laws}
use Rattle.machine.proofs.paper.job_of.Goals as goal

pub loop-k-preserved : goal.loop-k-preserved
loop-k-preserved c = (
  search rules,
  search rules,
  search rules,
  job_on c.args.contents.now c.loop-k.job.code c.loop-k.k (length c.args.contents.now / 9) (search rules) c.instruction_of.result _ (search rules) (search rules) c.instruction_of.ensures c.loop-k.invariant.3,
)

pub returns : goal.returns
returns c = search (job_of_laws, rules)
