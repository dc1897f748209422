-- None of the first k versions names an entry of the cell,
-- so what the rest show is what all show.
use borrow.Author.Rules.{rules}
use Rattle.rules.proofs.Laws.Versions.{shown_laws}
use Rattle.rules.proofs.marks.Shows.entry_for.Goals as goal

pub returns-then-eq : goal.returns-then-eq
returns-then-eq c = search (shown_laws, rules)

pub loop-k-preserved : goal.loop-k-preserved
loop-k-preserved c = search (shown_laws, rules)

pub returns : goal.returns
returns c = search (shown_laws, rules)
