-- A count of 0
-- stands for the empty list.
use borrow.Author.Rules.{rules}
use Rattle.rules.proofs.Laws.Versions.{add_laws}
use Rattle.rules.proofs.block.Versions.empty.Goals as goal

pub returns : goal.returns
returns c = search (add_laws, rules)
