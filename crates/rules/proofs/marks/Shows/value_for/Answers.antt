-- The place that is shown names an entry,
-- whose value is the version's.
use borrow.Author.Rules.{rules}
use Rattle.rules.proofs.Laws.Versions.{shown_low}
use Rattle.rules.proofs.marks.Shows.value_for.Goals as goal

pub entry_at-requires : goal.entry_at-requires
entry_at-requires c = search (shown_low, rules)
