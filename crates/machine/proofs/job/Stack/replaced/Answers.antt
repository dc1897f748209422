-- The new entry stands just above those that stay;
-- the height counts it.
use Rattle.std.proofs.Common.{rules}
use Rattle.machine.proofs.Laws.Stack.{stack_laws}
use Rattle.machine.proofs.job.Stack.replaced.Goals as goal

pub returns : goal.returns
returns c = search (stack_laws, rules)
