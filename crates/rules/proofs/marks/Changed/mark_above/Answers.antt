-- The lists from k on are as they were,
-- and sweeping them is what is left of the whole sweep.
use borrow.Author.Rules.{rules}
use Rattle.rules.proofs.Laws.Marks.{ahead_on, sweep_on, sweep_end}
use Rattle.rules.proofs.marks.Changed.mark_above.Goals as goal

pub loop-k-preserved : goal.loop-k-preserved
loop-k-preserved c = (search rules, search (ahead_on, rules), search (sweep_on, rules))

pub returns : goal.returns
returns c = search (sweep_end, rules)
