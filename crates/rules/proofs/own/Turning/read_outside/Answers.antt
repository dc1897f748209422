-- There is room exactly where the list is short of its limit,
-- and then the version found is listed with the checkpoint.
use borrow.Author.Rules.{rules}
use Rattle.rules.proofs.Laws.Take.{own_outside_laws}
use Rattle.rules.proofs.own.Turning.read_outside.Goals as goal

pub returns-then-own-ge-FEW : goal.returns-then-own-ge-FEW
returns-then-own-ge-FEW c = search (own_outside_laws, rules)

pub returns : goal.returns
returns c = let e = rw c.of.ensures at c.find_version-found.ensures in search (own_outside_laws, rules)
