-- The turns still to take, from the block so far, give the whole list's block and bytes;
-- one turn takes the first of them and writes its byte, and a block that fits goes on fitting.
use Rattle.turns.proofs.Laws.Many.{Looping}
use Rattle.turns.proofs.many.take_all.Given as goal

abbrev pub invariant-loop-k : goal.invariant-loop-k
invariant-loop-k l = Looping l.initial.b l.tickets l.fits l.b l.k l.words
