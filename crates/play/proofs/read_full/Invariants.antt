-- The bytes that were read stand inside the buffer.
use Rattle.std.proofs.Common.{◌≤◌, length}
use Rattle.play.proofs.read_full.Given as goal

abbrev pub invariant-loop : goal.invariant-loop
invariant-loop g l = l.size ≤ length l.bytes
