-- The bytes from the index on are still to put;
-- one goes, and the next is where it ended.
use borrow.Author.Rules.{rules}
use Rattle.sessions.proofs.Laws.Text.{all_laws}
use Rattle.sessions.proofs.text.Text.put_all.Goals as goal

pub loop-b-preserved : goal.loop-b-preserved
loop-b-preserved c = search (all_laws, rules)

pub returns : goal.returns
returns c = search (all_laws, rules)
