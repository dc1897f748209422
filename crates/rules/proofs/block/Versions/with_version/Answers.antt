-- The new version stands just past the old ones,
-- and the store changes none of those.
use borrow.Author.Rules.{rules}
use Rattle.rules.proofs.Laws.Versions.{add_laws}
use Rattle.rules.proofs.block.Versions.with_version.Goals as goal

pub returns : goal.returns
returns c = search (add_laws, rules)
