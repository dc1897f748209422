-- A job that shows the cell ends the search;
-- one that does not leaves it to the lower tickets.
use Rattle.std.proofs.Common.{rules}
use Rattle.rules.proofs.Laws.Arrays.{array_laws}
use Rattle.rules.proofs.Laws.Versions.{find_laws}
use Rattle.rules.proofs.own.Around.+find_version.Goals as goal

pub returns-then-t-eq0 : goal.returns-then-t-eq0
returns-then-t-eq0 t c = search (find_laws, array_laws, rules)

pub returns-in_default : goal.returns-in_default
returns-in_default t c = search (find_laws, array_laws, rules)

pub returns : goal.returns
returns t c = search (find_laws, array_laws, rules)
