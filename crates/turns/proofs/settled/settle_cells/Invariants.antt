-- The table is what a reader above the first k jobs finds,
-- and what the next job shows goes over it.
use mathlib.Core.Path.{◌≡◌}
use lib.ListN.{length}
use Rattle.turns.specs.SerialRun.{cells_of}
use Rattle.turns.specs.Settled.{cell_found, Settleable}
use Rattle.turns.proofs.settled.settle_cells.Given as goal

abbrev pub invariant-loop-k : goal.invariant-loop-k
invariant-loop-k l = Settleable l.b l.f × (length l.table ≡ 256) × (cells_of l.table ≡ cell_found l.b l.k)
