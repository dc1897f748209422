-- The versions kept so far, and those kept of the rest,
-- are those kept of all.
use mathlib.Core.Path.{◌≡◌}
use mathlib.Core.List.{◌++◌}
use Prim.Native.Nat.{◌≤◌}
use lib.ListN.{drop}
use Rattle.theory.specs.Engine.{withdrawn}
use Rattle.rules.specs.View.{versions_of}
use Rattle.rules.proofs.block.Versions.withdraw.Given as goal

abbrev pub invariant-loop-k : goal.invariant-loop-k
invariant-loop-k l = (l.kept.size ≤ l.k) × (versions_of l.kept ++ withdrawn l.n (drop l.k (versions_of l.self)) ≡ withdrawn l.n (versions_of l.self))
