-- Up to p nothing was found, and the array holds what the places before p bring;
-- what is found from p on is the answer from the start.
use Rattle.std.proofs.Common.{◌≡◌, ◌-◌, length}
use Rattle.machine.specs.Verdict.{scan, brought, entries_at}
use Rattle.machine.proofs.verdict.Code.check_heights.Given as goal

abbrev pub invariant-loop-p : goal.invariant-loop-p
invariant-loop-p l = (l.i-items ≡ l.self.list.now) × (length l.known ≡ 64) × (l.known ≡ brought 64 l.self.list.now l.p) × (scan (entries_at 16 64 l.self.list.now) l.p (length l.self.list.now - l.p) ≡ scan (entries_at 16 64 l.self.list.now) 0 (length l.self.list.now))
