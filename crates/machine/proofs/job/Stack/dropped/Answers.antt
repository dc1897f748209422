-- A lower height shows the same entries,
-- without the first of the list.
use Rattle.std.proofs.Common.{rules}
use Rattle.machine.proofs.Laws.Stack.{stack_laws}
use Rattle.machine.proofs.job.Stack.dropped.Goals as goal

pub returns : goal.returns
returns c = search (stack_laws, rules)
