-- The versions so far, and those that the rest of the journal adds,
-- are those of the whole journal.
use borrow.Author.Rules.{rules}
use Rattle.rules.proofs.Laws.Versions.{publish_laws}
use Rattle.rules.proofs.block.Journal.publish.Goals as goal

pub loop-k-preserved : goal.loop-k-preserved
loop-k-preserved c = search (publish_laws, rules)

pub returns : goal.returns
returns c = search (publish_laws, rules)
