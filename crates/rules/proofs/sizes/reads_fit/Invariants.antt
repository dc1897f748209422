-- The first i reads fit, and the last of their checkpoints has so many entries as were seen before,
-- so the rest decides; after the last read these are compared with the journal's.
use mathlib.Core.Path.{◌≡◌}
use Prim.Native.Nat.{◌-◌}
use Rattle.rules.specs.Sizes.{rises_from, reads_within, listed}
use Rattle.rules.proofs.sizes.reads_fit.Given as goal

abbrev pub invariant-loop-i : goal.invariant-loop-i
invariant-loop-i l = rises_from l.size l.entries l.rs (listed l.cs) l.before l.i (l.rs.size - l.i) ≡ reads_within l.size l.entries l.rs (listed l.cs)
