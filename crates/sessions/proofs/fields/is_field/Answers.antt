-- The tests are the definition's, in its order:
-- room for a head, room for the contents, the tag.
use borrow.Author.Rules.{rules}
use mathlib.Core.Path.{sym, ◌∙◌}
use native.Mathlib.Omega.{arith}
use borrow.Author.Tests.{leb-true}
use Rattle.sessions.proofs.Laws.Fields.{field_laws}
use Rattle.sessions.proofs.fields.is_field.Goals as goal
use Rattle.sessions.proofs.fields.is_field.Goals.{then-rest-ge-HEAD, else-rest-ge-HEAD}

pub returns-then-size_of_field-rest : goal.returns-then-size_of_field-rest
returns-then-size_of_field-rest c = elim c.if-rest-ge-HEAD.branch [ then-rest-ge-HEAD w ↦ search (field_laws, rules) | else-rest-ge-HEAD w ↦ absurd (omega (arith, leb-true _ _ (sym w.value-is ∙ c.if-size_of_field-rest.true))) ]

pub returns-else-size_of_field-rest : goal.returns-else-size_of_field-rest
returns-else-size_of_field-rest c = elim c.if-rest-ge-HEAD.branch [ then-rest-ge-HEAD w ↦ search (field_laws, rules) | else-rest-ge-HEAD w ↦ search (field_laws, rules) ]
