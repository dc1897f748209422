-- The versions from the k-th on are over the table,
-- and the store of the one before it puts it over them.
use mathlib.Core.Path.{◌≡◌}
use lib.ListN.{drop}
use Rattle.rules.specs.View.{versions_of, Showing}
use Rattle.turns.specs.SerialRun.{cells_of}
use Rattle.turns.specs.Settled.{InTable, shown_over}
use Rattle.turns.proofs.settled.apply_versions.Given as goal

abbrev pub invariant-loop-k : goal.invariant-loop-k
invariant-loop-k l = Showing l.j l.v × InTable l.j × (cells_of l.table ≡ shown_over l.j (drop l.k (versions_of l.v)) (cells_of l.initial.table))
