-- Each job is packed at its own place,
-- where it stays.
use Rattle.rules.proofs.Laws.Program.{PackingAll}
use Rattle.rules.proofs.program.programs_of.Given as goal

abbrev pub invariant-loop-k : goal.invariant-loop-k
invariant-loop-k l = PackingAll l.jobs l.k l.all
