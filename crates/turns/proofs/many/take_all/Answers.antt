-- The turns still to take, from the block so far, give the whole list's block and bytes;
-- one turn takes the first of them and writes its byte, and a block that fits goes on fitting.
use borrow.Author.Rules.{rules}
use Rattle.turns.proofs.Laws.Many.{loop_on, loop_end}
use Rattle.turns.proofs.many.take_all.Goals as goal

pub loop-k-preserved : goal.loop-k-preserved
loop-k-preserved c = loop_on _ _ _ _ _ _ c.loop-k.invariant c.loop-k-test.true _ _ c.take_turn.ensures c.byte.ensures

pub returns : goal.returns
returns c = loop_end _ _ _ _ _ _ c.loop-k.invariant (search (c.loop-k-test.false, rules))
