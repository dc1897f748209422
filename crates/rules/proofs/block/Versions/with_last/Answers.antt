-- The entry is a version
-- exactly where no later one writes its cell.
use mathlib.Core.Path.{◌∙◌}
use borrow.Author.Rules.{rules}
use Rattle.rules.proofs.Laws.Arrays.{array_laws}
use Rattle.rules.proofs.Laws.Journal.{later_is}
use Rattle.rules.proofs.Laws.Versions.{last_one_laws}
use Rattle.rules.proofs.block.Versions.with_last.Goals as goal

pub returns-then-writes : goal.returns-then-writes
returns-then-writes c =
    let e = (rw c.from.ensures at c.writes.ensures) ∙ later_is c.args.j c.args.k _ _ c.held.ensures (search (array_laws, rules)) c.requires.0 in
    search (last_one_laws, rules)

pub returns-else-writes : goal.returns-else-writes
returns-else-writes c =
    let e = (rw c.from.ensures at c.writes.ensures) ∙ later_is c.args.j c.args.k _ _ c.held.ensures (search (array_laws, rules)) c.requires.0 in
    search (last_one_laws, rules)
