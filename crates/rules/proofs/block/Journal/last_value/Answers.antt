-- The last entry's number is below the count,
-- and its value is the last value.
use borrow.Author.Rules.{rules}
use Rattle.rules.proofs.Laws.Own.{own_low}
use Rattle.rules.proofs.block.Journal.last_value.Goals as goal

pub entry_at-requires : goal.entry_at-requires
entry_at-requires c = search (own_low, rules)
