-- Nothing from place k on writes the cell,
-- so the last entry of the first k is the last of all.
use borrow.Author.Rules.{rules}
use Rattle.rules.proofs.Laws.Journal.{last_laws}
use Rattle.rules.proofs.block.Journal.last_entry.Goals as goal

pub returns-then-eq : goal.returns-then-eq
returns-then-eq c = search (last_laws, rules)

pub loop-k-preserved : goal.loop-k-preserved
loop-k-preserved c = search (last_laws, rules)

pub returns : goal.returns
returns c = search (last_laws, rules)
