-- The versions kept so far, and those kept of the rest,
-- are those kept of all.
use borrow.Author.Rules.{rules}
use Rattle.rules.proofs.Laws.Versions.{withdraw_laws}
use Rattle.rules.proofs.block.Versions.withdraw.Goals as goal

pub loop-k-preserved : goal.loop-k-preserved
loop-k-preserved c = let e = rw c.from.ensures at c.with_kept-kept.ensures in search (withdraw_laws, rules)

pub returns : goal.returns
returns c = search (withdraw_laws, rules)
