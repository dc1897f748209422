-- Two tests, in the definition's order;
-- what passes both finds what it needs.
use Rattle.std.proofs.Common.{rules}
use Rattle.machine.proofs.Laws.Step.{ready_laws}
use Rattle.machine.proofs.step.Ready.of.Goals.{else-is_placed-via-then-is_placed+else-is_enough, else-is_placed-via-else-is_placed}
use Rattle.machine.proofs.step.Ready.of.Goals as goal

pub invariant_of-result : goal.invariant_of-result
invariant_of-result c = search (ready_laws, rules)

pub returns-then-is_enough : goal.returns-then-is_enough
returns-then-is_enough c = search (ready_laws, rules)

pub returns-else-is_placed : goal.returns-else-is_placed
returns-else-is_placed c = elim c.else-is_placed.branch [ else-is_placed-via-then-is_placed+else-is_enough w ↦ search (ready_laws, rules) | else-is_placed-via-else-is_placed w ↦ search (ready_laws, rules) ]
