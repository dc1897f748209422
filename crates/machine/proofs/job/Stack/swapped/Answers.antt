-- Two stores, of the top at k and of the k-th at the top,
-- exchange them; neither changes the height.
use Rattle.std.proofs.Common.{rules}
use Rattle.machine.proofs.Laws.Stack.{swap_laws}
use Rattle.machine.proofs.job.Stack.swapped.Goals as goal

pub put-requires-2 : goal.put-requires-2
put-requires-2 c = search (swap_laws, rules)
