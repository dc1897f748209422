-- The paper ends inside the session,
-- and the rest is the field of tickets or the session is in breach.
use borrow.Author.Rules.{rules}
use Rattle.sessions.proofs.Laws.Fields.{parts_laws}
use Rattle.sessions.proofs.fields.parts_from.Goals as goal

pub split_at-requires : goal.split_at-requires
split_at-requires c = search (parts_laws, rules)

pub returns-then-not-ends_in_turns : goal.returns-then-not-ends_in_turns
returns-then-not-ends_in_turns c = search (parts_laws, rules)

pub slice_bounds-result-count : goal.slice_bounds-result-count
slice_bounds-result-count c = search (parts_laws, rules)

pub slice_bounds-result-start : goal.slice_bounds-result-start
slice_bounds-result-start c = search (parts_laws, rules)

pub returns : goal.returns
returns c = search (parts_laws, rules)
