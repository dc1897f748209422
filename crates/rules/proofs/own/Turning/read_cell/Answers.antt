-- The job's own value comes first,
-- and a version from outside where it holds none.
use borrow.Author.Rules.{rules}
use Rattle.rules.proofs.Laws.Take.{own_read_laws}
use Rattle.rules.proofs.own.Turning.read_cell.Goals as goal

pub returns-in_default : goal.returns-in_default
returns-in_default c = search (own_read_laws, rules)

pub returns : goal.returns
returns c = search (own_read_laws, rules)
