-- The field is the whole rest,
-- and no longer than a session may have it.
use borrow.Author.Rules.{rules}
use mathlib.Core.Path.{sym, ◌∙◌}
use borrow.Author.Tests.{both_ways}
use Rattle.sessions.proofs.Laws.Fields.{turns_laws}
use Rattle.sessions.proofs.fields.ends_in_turns.Goals as goal
use Rattle.sessions.proofs.fields.ends_in_turns.Goals.{then-is_field, else-is_field}

pub size_of_field-requires : goal.size_of_field-requires
size_of_field-requires c = search (turns_laws, rules)

pub overflow_sub-result : goal.overflow_sub-result
overflow_sub-result c = elim c.if-is_field.branch [ then-is_field w ↦ search (turns_laws, rules) | else-is_field w ↦ absurd (both_ways _ w.if-is_field.false (sym w.value-is ∙ c.if-size_of_field-le-TURNS.true)) ]

pub size_of_field-requires-then-size_of_field-le-TURNS : goal.size_of_field-requires-then-size_of_field-le-TURNS
size_of_field-requires-then-size_of_field-le-TURNS c = elim c.if-is_field.branch [ then-is_field w ↦ search (turns_laws, rules) | else-is_field w ↦ absurd (both_ways _ w.if-is_field.false (sym w.value-is ∙ c.if-size_of_field-le-TURNS.true)) ]

pub returns-then-size_of_field-le-TURNS : goal.returns-then-size_of_field-le-TURNS
returns-then-size_of_field-le-TURNS c = elim c.if-is_field.branch [ then-is_field w ↦ search (turns_laws, rules) | else-is_field w ↦ absurd (both_ways _ w.if-is_field.false (sym w.value-is ∙ c.if-size_of_field-le-TURNS.true)) ]

pub returns-else-size_of_field-le-TURNS : goal.returns-else-size_of_field-le-TURNS
returns-else-size_of_field-le-TURNS c = elim c.if-is_field.branch [ then-is_field w ↦ search (turns_laws, rules) | else-is_field w ↦ search (turns_laws, rules) ]
