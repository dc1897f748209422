-- The lists from k on are as they were,
-- and sweeping them is what is left of the whole sweep.
use mathlib.Core.Path.{◌≡◌}
use Prim.Native.Nat.{◌-◌}
use lib.ListN.{length}
use Rattle.rules.specs.Marks.{mark_reads, sweep}
use Rattle.rules.proofs.Laws.Marks.{Ahead}
use Rattle.rules.proofs.marks.Changed.mark_above.Given as goal

abbrev pub invariant-loop-k : goal.invariant-loop-k
invariant-loop-k l = (length l.lists ≡ 16) × Ahead l.initial.lists l.lists l.k × (sweep (mark_reads l.self.old l.self.new l.self.ticket.0) l.k (l.count - l.k) l.lists ≡ sweep (mark_reads l.self.old l.self.new l.self.ticket.0) l.self.ticket.0 (l.count - l.self.ticket.0) l.initial.lists)
