-- What is left of the session, with the table so far, is the whole session;
-- each field takes bytes.
use mathlib.Core.Path.{◌≡◌}
use lib.ListN.{length}
use Rattle.sessions.specs.Fields.{from_cell, session_of}
use Rattle.sessions.proofs.fields.session_parts.Given as goal

abbrev pub invariant-loop-least : goal.invariant-loop-least
invariant-loop-least l = (length l.table ≡ 256) × (from_cell l.least.0 l.table l.rest ≡ session_of l.input)

abbrev pub decreases-loop-least : goal.decreases-loop-least
decreases-loop-least l = length l.rest
