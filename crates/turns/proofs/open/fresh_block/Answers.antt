-- Every entry of an array is the one it is filled with,
-- and that stands for a fresh job's part.
use borrow.Author.Rules.{rules}
use Rattle.turns.proofs.Laws.Open.{fresh_is}
use Rattle.turns.proofs.open.fresh_block.Goals as goal

pub returns : goal.returns
returns c = search (fresh_is, rules)
