-- 12 and the checker's refusals return before any store; an accepted paper's jobs passed,
-- so all run on the copy of the start table, and the whole output is the serial run.
use borrow.Author.Rules.{rules}
use Rattle.rules.proofs.Laws.Arrays.{array_laws}
use Rattle.turns.proofs.Laws.Accepted.{few_jobs, part_pass}
use Rattle.turns.proofs.Laws.Serial.{wrong_start, wrong_output, serve_refused, serve_ran}
use Rattle.turns.proofs.serial.run_serially.Goals as goal

pub returns-in_default : goal.returns-in_default
returns-in_default c = wrong_start _ _ _ c.in_default.ensures.1

pub returns-then-output : goal.returns-then-output
returns-then-output c = wrong_output _ _ _ c.in-Ok.ensures.1.long c.if-output.true

pub returns-in_err-all : goal.returns-in_err-all
returns-in_err-all c = serve_refused _ _ _ c.in-Ok.ensures.1.long c.if-output.false _ _ c.in_err-all.ensures c.from_residual.ensures.1

pub shared_ref_as_front-run_jobs : goal.shared_ref_as_front-run_jobs
shared_ref_as_front-run_jobs c = few_jobs _ _ c.in_ok-all.ensures

pub run_jobs-requires : goal.run_jobs-requires
run_jobs-requires c = (part_pass _ _ c.in_ok-all.ensures (search (array_laws, rules))).1

pub returns : goal.returns
returns c =
    serve_ran _ _ _ c.in-Ok.ensures.1.long c.if-output.false _ _ c.in_ok-all.ensures (search (array_laws, rules)) (rw c.in-Ok.ensures.1.same at c.run_jobs.ensures)
