-- There is room exactly where the journal is short of its limit,
-- and then the entry is added.
use borrow.Author.Rules.{rules}
use Rattle.rules.proofs.Laws.Take.{own_write_laws}
use Rattle.rules.proofs.own.Own.write_cell.Goals as goal

pub returns-then-self-ge-FEW : goal.returns-then-self-ge-FEW
returns-then-self-ge-FEW c = search (own_write_laws, c.stay.ensures, c.if-self-ge-FEW.true, rules)

pub returns-else-self-ge-FEW : goal.returns-else-self-ge-FEW
returns-else-self-ge-FEW c = search (own_write_laws, c.write_to.ensures, c.if-self-ge-FEW.false, rules)
