-- Between two instructions, what the job has still to do is the rest of its whole run;
-- each instruction leaves fewer ahead.
use Rattle.turns.proofs.Laws.Alone.{alone_start}
use Rattle.turns.proofs.serial.run_alone.Goals as goal

pub steps-init : goal.steps-init
steps-init c = alone_start _ _ _ c.requires c.begin_alone-a.ensures
