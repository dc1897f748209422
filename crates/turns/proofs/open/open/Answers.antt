-- 12 returns before the paper is read, and a refused paper leaves no jobs;
-- an accepted one opens its own jobs, in bytes, each at its start.
use borrow.Author.Rules.{rules}
use Rattle.rules.proofs.Laws.Arrays.{array_laws}
use Rattle.turns.proofs.Laws.Accepted.{few_jobs, part_pass}
use Rattle.turns.proofs.Laws.Open.{open_wrong, open_refused, open_accepted}
use Rattle.turns.proofs.open.open.Goals as goal

pub returns-in_default : goal.returns-in_default
returns-in_default c = open_wrong _ _ _ c.in_default.ensures.1 c.nothing_open.ensures

pub shared_ref_as_front-programs_of : goal.shared_ref_as_front-programs_of
shared_ref_as_front-programs_of c = few_jobs _ _ c.in-Ok-check_paper.ensures

pub programs_of-programs-requires : goal.programs_of-programs-requires
programs_of-programs-requires c = part_pass _ _ c.in-Ok-check_paper.ensures (search (array_laws, rules))

pub returns : goal.returns
returns c =
    open_accepted _ _ c.in-Ok.ensures.1.long _ c.in-Ok-check_paper.ensures _ _ _ c.in-Ok.ensures.1.same (search (array_laws, rules)) c.programs_of-programs.ensures c.fresh_block.ensures

pub returns-in-Err : goal.returns-in-Err
returns-in-Err c = open_refused _ _ c.in-Ok.ensures.1.long _ _ _ c.in-Err.ensures c.into.ensures c.nothing_open-in-Err.ensures
