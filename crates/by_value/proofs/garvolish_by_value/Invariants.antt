-- The turns still to take, from the block that the last one gave back, give the whole list's bytes;
-- one turn takes the first of them and writes its byte.
use Rattle.rules.specs.Block.{block_of}
use Rattle.turns.specs.Going.{Going}
use Rattle.turns.specs.Open.{open_block}
use Rattle.by_value.proofs.garvolish_by_value.Given as goal

abbrev pub invariant-loop-k : goal.invariant-loop-k
invariant-loop-k l = Going (open_block l.start l.paper) l.tickets (block_of l.block) l.k l.words
