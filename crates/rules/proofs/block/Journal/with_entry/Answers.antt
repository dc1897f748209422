-- The new entry stands just past the old ones,
-- and the store changes none of those.
use borrow.Author.Rules.{rules}
use Rattle.rules.proofs.Laws.Arrays.{array_laws}
use Rattle.rules.proofs.Laws.Journal.{entry_laws}
use Rattle.rules.proofs.block.Journal.with_entry.Goals as goal

pub returns : goal.returns
returns c = search (entry_laws, array_laws, rules)
