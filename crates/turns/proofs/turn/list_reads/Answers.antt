-- A move that marks marks each higher job's list,
-- and one that does not leaves those lists as they are.
use Rattle.turns.proofs.turn.list_reads.Goals as goal

pub invariant_of-changed : goal.invariant_of-changed
invariant_of-changed c = let may = c.requires.1 in record {
  shown_before = rw c.shows.ensures (may.before c.if-done.true);
  shown_after = rw c.shows-then-done.ensures (may.after c.if-done.true);
}
