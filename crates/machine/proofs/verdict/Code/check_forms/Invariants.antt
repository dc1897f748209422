-- Up to p nothing was found, and the counts are those of the places before p;
-- what is found from p on is the answer from the start.
use Rattle.std.proofs.Common.{◌≡◌, ◌-◌, ◌≤◌, length}
use Rattle.machine.specs.Verdict.{scan, count, form_at}
use Rattle.machine.proofs.verdict.Code.check_forms.Given as goal

abbrev pub invariant-loop-p : goal.invariant-loop-p
invariant-loop-p l = (l.i-items ≡ l.self.list.now) × (l.size ≡ length l.self.list.now) × (l.reads ≡ count l.self.list.now 10 l.p) × (l.writes ≡ count l.self.list.now 11 l.p) × (l.reads ≤ l.p) × (l.writes ≤ l.p) × (scan (form_at 8 l.self.list.now) l.p (length l.self.list.now - l.p) ≡ scan (form_at 8 l.self.list.now) 0 (length l.self.list.now))
