-- A count of 0
-- leaves no jobs.
use borrow.Author.Rules.{rules}
use Rattle.turns.proofs.Laws.Open.{nothing_is}
use Rattle.turns.proofs.open.nothing_open.Goals as goal

pub returns : goal.returns
returns c = search (nothing_is, rules)
