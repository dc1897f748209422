-- Each instruction is written at its own place,
-- where it stays, so after the last the program is the packed one.
use Rattle.rules.proofs.Laws.Program.{Packing}
use Rattle.rules.proofs.block.Program.packed.Given as goal

abbrev pub invariant-loop-k : goal.invariant-loop-k
invariant-loop-k l = Packing l.job l.p l.k
