-- The places before and after
-- are those from which the versions show the read's cell.
use borrow.Author.Rules.{rules}
use Rattle.rules.proofs.Laws.Marks.{struck_is}
use Rattle.rules.proofs.marks.Changed.strikes.Goals as goal

pub returns : goal.returns
returns c = search (struck_is, rules)
