-- A version is kept
-- exactly where its entry stands before the n-th.
use borrow.Author.Rules.{rules}
use Rattle.rules.proofs.Laws.Versions.{kept_laws}
use Rattle.rules.proofs.block.Versions.with_kept.Goals as goal

pub returns-then-number-n : goal.returns-then-number-n
returns-then-number-n c = search (kept_laws, rules)

pub returns-else-number-n : goal.returns-else-number-n
returns-else-number-n c = search (kept_laws, rules)
