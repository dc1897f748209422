-- Up to p nothing was found, and the counts are those of the places before p;
-- what is found from p on is the answer from the start.
use Rattle.std.proofs.Common.{rules}
use Rattle.machine.proofs.Laws.Verdict.{forms_laws}
use Rattle.machine.proofs.verdict.Code.check_forms.Goals as goal

pub loop-p-init : goal.loop-p-init
loop-p-init c = search (forms_laws, rules)

pub returns-in_default : goal.returns-in_default
returns-in_default c = search (forms_laws, rules)

pub loop-p-preserved : goal.loop-p-preserved
loop-p-preserved c = search (forms_laws, rules)

pub returns : goal.returns
returns c = search (forms_laws, rules)
