-- Each job is packed at its own place,
-- where it stays.
use Rattle.std.proofs.Common.{arith}
use Rattle.rules.proofs.Laws.Program.{packs_on, packs_end}
use Rattle.rules.proofs.program.programs_of.Goals as goal

pub loop-k-preserved : goal.loop-k-preserved
loop-k-preserved c = packs_on _ _ _ c.loop-k.invariant (omega arith) _ c.packed.ensures

pub returns : goal.returns
returns c = packs_end _ _ _ c.loop-k.invariant (omega arith)
