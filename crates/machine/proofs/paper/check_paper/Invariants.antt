-- The jobs so far, joined to the answer for the fields from here on, are the answer to the whole paper;
-- a fault ends it, and each field brings the end of the paper nearer.
use Rattle.std.proofs.Common.{◌≡◌, ◌+◌, ◌-◌, ◌≤◌, map, length, take}
use Rattle.machine.specs.Paper.{fields, paper_answer}
use Rattle.machine.specs.View.{code_of}
use Rattle.machine.proofs.Laws.Paper.{joined}
use Rattle.machine.proofs.paper.check_paper.Given as goal

abbrev pub invariant-loop-rest : goal.invariant-loop-rest
invariant-loop-rest l = (l.count ≤ 16) × (length l.jobs ≡ 16) × (joined (map code_of (take l.count l.jobs)) (fields (16 - l.count) (l.count + 1) l.rest) ≡ paper_answer l.fn.paper)

abbrev pub decreases-loop-rest : goal.decreases-loop-rest
decreases-loop-rest l = length l.rest
