-- The place is below the job's size,
-- so the program's instruction there is the job's.
use Rattle.rules.proofs.Laws.Program.{steps_program}
use Rattle.rules.proofs.block.Program.step.Goals as goal

pub returns : goal.returns
returns c = steps_program _ _ _ _ c.requires.0 (rw c.from.ensures at c.instruction_at-i.ensures) c.instruct.ensures
