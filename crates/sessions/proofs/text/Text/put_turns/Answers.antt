-- The lines of the turns that are left are still to put, with f as it stands;
-- one goes, and f has grown if its word was final.
use borrow.Author.Rules.{rules}
use Rattle.sessions.proofs.Laws.Text.{lines_laws}
use Rattle.sessions.proofs.text.Text.put_turns.Goals as goal

pub loop-t-preserved : goal.loop-t-preserved
loop-t-preserved c = let s = c.in-Some.ensures.steps in search (lines_laws, rules)

pub returns : goal.returns
returns c = let s = c.in-None.ensures.steps in search (lines_laws, rules)
