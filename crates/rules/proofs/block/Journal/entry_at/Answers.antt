-- An entry of the array before the count
-- is that entry of the list.
use borrow.Author.Rules.{rules}
use Rattle.rules.proofs.Laws.Journal.{entry_laws}
use Rattle.rules.proofs.block.Journal.entry_at.Goals as goal

pub returns : goal.returns
returns c = search (entry_laws, rules)
