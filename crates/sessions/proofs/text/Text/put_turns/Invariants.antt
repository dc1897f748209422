-- The lines of the turns that are left are still to put, with f as it stands;
-- one goes, and f has grown if its word was final.
use Prim.Native.Nat.{◌+◌, ◌≤◌}
use lib.ListN.{length}
use Rattle.sessions.specs.Text.{byte_lines}
use Rattle.sessions.proofs.Laws.Text.{Still}
use Rattle.sessions.proofs.text.Text.put_turns.Given as goal

abbrev pub invariant-loop-t : goal.invariant-loop-t
invariant-loop-t l = (l.f + length l.t-iterator.a.rest.now ≤ length l.tickets) × Still l.initial.self (byte_lines 0 l.tickets l.words) l.self (byte_lines l.f l.t-iterator.a.rest.now l.t-iterator.b.rest.now)
