-- The instructions so far, joined to those still to be read,
-- are all the instructions.
use Rattle.std.proofs.Common.{◌≡◌, ◌-◌, ◌*◌, ◌/◌, ◌≤◌, ◌++◌, length, take, drop}
use Rattle.machine.specs.Paper.{instructions}
use Rattle.machine.proofs.paper.job_of.Given as goal

abbrev pub invariant-loop-k : goal.invariant-loop-k
invariant-loop-k l = (l.size ≡ length l.contents / 9) × (l.size ≤ 64) × (length l.job.code ≡ 64) × (take l.k l.job.code ++ instructions (l.size - l.k) (drop (9 * l.k) l.contents) ≡ instructions l.size l.contents)
