-- What is left of the session, with the table so far, is the whole session;
-- each field takes bytes.
use borrow.Author.Rules.{rules}
use Rattle.sessions.proofs.Laws.Fields.{session_laws}
use Rattle.sessions.proofs.fields.session_parts.Goals as goal

pub returns-then-input-gt-BYTES : goal.returns-then-input-gt-BYTES
returns-then-input-gt-BYTES c = search (session_laws, rules)

pub loop-least-init : goal.loop-least-init
loop-least-init c = search (session_laws, rules)

pub returns-then-not-is_next_cell : goal.returns-then-not-is_next_cell
returns-then-not-is_next_cell c = search (session_laws, rules)

pub cell_at-cell-requires : goal.cell_at-cell-requires
cell_at-cell-requires c = search (session_laws, rules)

pub value_at-requires : goal.value_at-requires
value_at-requires c = search (session_laws, rules)

pub slice_bounds-rest-count : goal.slice_bounds-rest-count
slice_bounds-rest-count c = search (session_laws, rules)

pub slice_bounds-rest-start : goal.slice_bounds-rest-start
slice_bounds-rest-start c = search (session_laws, rules)

pub loop-least-smaller : goal.loop-least-smaller
loop-least-smaller c = search (session_laws, rules)

pub loop-least-preserved : goal.loop-least-preserved
loop-least-preserved c = search (session_laws, rules)

pub returns : goal.returns
returns c = search (session_laws, rules)
