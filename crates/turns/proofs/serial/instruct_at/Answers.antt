-- The place is below the job's size,
-- so the array's instruction there is the job's.
use borrow.Author.Rules.{rules}
use Rattle.turns.proofs.Laws.Alone.{steps_in}
use Rattle.turns.proofs.serial.instruct_at.Goals as goal

pub returns : goal.returns
returns c = search (steps_in, rules)
