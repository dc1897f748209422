-- The frame is tested first, and its fault returns at once;
-- a frame that passed leaves room for whole instructions, and they are the field's job.
use Rattle.std.proofs.Common.{rules}
use Rattle.machine.proofs.Laws.Tests.{passed}
use Rattle.machine.proofs.Laws.Paper.{take_job, take_laws}
use Rattle.machine.proofs.paper.take_field.Goals as goal

pub returns-in_err-check_job : goal.returns-in_err-check_job
returns-in_err-check_job c = search (take_laws, passed, rules)

pub returns : goal.returns
returns c =
    take_job c.args.rest.now c.args.count (search (passed, rules)) c.size_of_field.result (search rules) c.job_of-job.result c.job_of-job.ensures c.check_job.result (search rules) c.in_ok-check_job.field-0 (search rules)
