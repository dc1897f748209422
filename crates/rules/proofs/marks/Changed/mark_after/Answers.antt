-- None of the first k reads is struck,
-- so the first struck of the rest is the first of all.
use borrow.Author.Rules.{rules}
use Rattle.rules.proofs.Laws.Marks.{mark_laws}
use Rattle.rules.proofs.marks.Changed.mark_after.Goals as goal

pub returns-then-strikes : goal.returns-then-strikes
returns-then-strikes c = search (mark_laws, rules)

pub loop-k-preserved : goal.loop-k-preserved
loop-k-preserved c = search (mark_laws, rules)

pub returns : goal.returns
returns c = search (mark_laws, rules)
