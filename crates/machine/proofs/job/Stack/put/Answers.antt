-- A store at height - 1 - k is a store at k of the list;
-- the array has 16 entries and the height is at most that.
use Rattle.std.proofs.Common.{rules}
use Rattle.machine.proofs.Laws.Stack.{stack_laws}
use Rattle.machine.proofs.job.Stack.put.Goals as goal

pub returns : goal.returns
returns c = search (stack_laws, rules)
