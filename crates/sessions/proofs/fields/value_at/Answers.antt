-- A value is the number that the eight bytes after the cell make,
-- low byte first.
use borrow.Author.Rules.{rules}
use Rattle.sessions.proofs.Laws.Fields.{value_is}
use Rattle.sessions.proofs.fields.value_at.Goals as goal

pub returns : goal.returns
returns c = search (value_is, rules)
