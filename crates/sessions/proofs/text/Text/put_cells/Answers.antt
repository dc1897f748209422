-- The lines of the cells from the k-th on are still to put;
-- one goes, and the next is where it ended.
use borrow.Author.Rules.{rules}
use Rattle.sessions.proofs.Laws.Text.{cells_laws}
use Rattle.sessions.proofs.text.Text.put_cells.Goals as goal

pub loop-k-preserved : goal.loop-k-preserved
loop-k-preserved c = search (cells_laws, rules)

pub returns : goal.returns
returns c = search (cells_laws, rules)
