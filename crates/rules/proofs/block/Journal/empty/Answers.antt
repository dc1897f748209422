-- A count of 0
-- stands for the empty journal.
use borrow.Author.Rules.{rules}
use Rattle.rules.proofs.Laws.Journal.{entries_none}
use Rattle.rules.proofs.block.Journal.empty.Goals as goal

pub returns : goal.returns
returns c = search (entries_none, rules)
