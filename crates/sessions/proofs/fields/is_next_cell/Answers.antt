-- A field of length 9 has its cell in its fourth byte,
-- which is inside since the field is whole.
use borrow.Author.Rules.{rules}
use Rattle.sessions.specs.Fields.{is_next_cell}
use Rattle.sessions.proofs.Laws.Fields.{next_laws}
use Rattle.sessions.proofs.fields.is_next_cell.Goals as goal

pub size_of_field-requires : goal.size_of_field-requires
size_of_field-requires c = search (next_laws, rules)

pub cell_at-requires : goal.cell_at-requires
cell_at-requires c = search (next_laws, rules)

pub returns-then-size_of_field-eq-CELL_BYTES : goal.returns-then-size_of_field-eq-CELL_BYTES
unfolding is_next_cell
returns-then-size_of_field-eq-CELL_BYTES c = search (next_laws, rules)

pub returns-else-size_of_field-eq-CELL_BYTES : goal.returns-else-size_of_field-eq-CELL_BYTES
returns-else-size_of_field-eq-CELL_BYTES c = search (next_laws, rules)
