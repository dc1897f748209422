-- The lines of the cells from the k-th on are still to put;
-- one goes, and the next is where it ended.
use lib.ListN.{drop}
use Rattle.sessions.specs.Text.{cell_lines}
use Rattle.sessions.proofs.Laws.Text.{Still}
use Rattle.sessions.proofs.text.Text.put_cells.Given as goal

abbrev pub invariant-loop-k : goal.invariant-loop-k
invariant-loop-k l = Still l.initial.self (cell_lines 0 l.table) l.self (cell_lines l.k (drop l.k l.table))
