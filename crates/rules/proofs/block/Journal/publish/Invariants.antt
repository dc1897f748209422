-- The versions so far, and those that the rest of the journal adds,
-- are those of the whole journal.
use mathlib.Core.Path.{◌≡◌}
use mathlib.Core.List.{◌++◌}
use Prim.Native.Nat.{◌≤◌}
use lib.ListN.{drop}
use Rattle.theory.specs.Engine.{lasts_from, published}
use Rattle.rules.specs.View.{journal_of, versions_of}
use Rattle.rules.proofs.block.Journal.publish.Given as goal

abbrev pub invariant-loop-k : goal.invariant-loop-k
invariant-loop-k l = (l.v.size ≤ l.k) × (versions_of l.v ++ lasts_from l.k (drop l.k (journal_of l.self)) ≡ published (journal_of l.self))
