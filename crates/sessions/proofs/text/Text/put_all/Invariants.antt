-- The bytes from the index on are still to put;
-- one goes, and the next is where it ended.
use lib.ListN.{drop}
use Rattle.sessions.proofs.Laws.Text.{Still}
use Rattle.sessions.proofs.text.Text.put_all.Given as goal

abbrev pub invariant-loop-b : goal.invariant-loop-b
invariant-loop-b l = Still l.initial.self l.bytes l.self (drop l.b-index l.bytes)
