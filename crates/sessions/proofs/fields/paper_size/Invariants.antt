-- The paper passed so far and what is left of it
-- are the whole paper.
use mathlib.Core.Path.{◌≡◌}
use Prim.Native.Nat.{◌+◌, ◌≤◌}
use lib.ListN.{length}
use Rattle.sessions.specs.Fields.{paper_length}
use Rattle.sessions.proofs.fields.paper_size.Given as goal

abbrev pub invariant-loop-rest : goal.invariant-loop-rest
invariant-loop-rest l = (length l.rest ≤ length l.bytes) × (length l.bytes + paper_length l.rest ≡ length l.rest + paper_length l.bytes)

abbrev pub decreases-loop-rest : goal.decreases-loop-rest
decreases-loop-rest l = length l.rest
