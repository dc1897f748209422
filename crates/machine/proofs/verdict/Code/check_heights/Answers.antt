-- Up to p nothing was found, and the array holds what the places before p bring;
-- what is found from p on is the answer from the start.
use Rattle.std.proofs.Common.{rules}
use Rattle.machine.proofs.Laws.Tests.{passed}
use Rattle.machine.proofs.Laws.Verdict.{heights_laws}
use Rattle.machine.proofs.verdict.Code.check_heights.Goals as goal

pub loop-p-init : goal.loop-p-init
loop-p-init c = search (heights_laws, passed, rules)

pub returns-in_default : goal.returns-in_default
returns-in_default c = search (heights_laws, passed, rules)

pub lead_from-requires : goal.lead_from-requires
lead_from-requires c = search (heights_laws, passed, rules)

pub loop-p-preserved : goal.loop-p-preserved
loop-p-preserved c = search (heights_laws, passed, rules)

pub returns : goal.returns
returns c = search (heights_laws, passed, rules)
