-- None of the first k reads is struck,
-- so the first struck of the rest is the first of all.
use mathlib.Core.Path.{◌≡◌}
use Prim.Native.Nat.{◌-◌}
use Rattle.rules.specs.Marks.{first_from, strikes_at}
use Rattle.rules.proofs.marks.Changed.mark_after.Given as goal

abbrev pub invariant-loop-k : goal.invariant-loop-k
invariant-loop-k l = first_from (strikes_at l.self.old l.self.new l.self.ticket.0 l.reads) l.k (l.reads.size - l.k) ≡ first_from (strikes_at l.self.old l.self.new l.self.ticket.0 l.reads) 0 l.reads.size
