-- The table is the first k entries over the table at the start,
-- and the store of the next entry is one entry more.
use mathlib.Core.Path.{◌≡◌}
use Rattle.theory.specs.Serial.{over}
use Rattle.rules.specs.View.{entries_of}
use Rattle.turns.specs.SerialRun.{cells_of}
use Rattle.turns.specs.Alone.{Writes}
use Rattle.turns.proofs.serial.apply_writes.Given as goal

abbrev pub invariant-loop-e : goal.invariant-loop-e
invariant-loop-e l = Writes l.fn.j × (cells_of l.table ≡ over (entries_of l.e-index l.fn.j) (cells_of l.initial.table))
