-- Nothing from place k on writes the cell,
-- so the last entry of the first k is the last of all.
use mathlib.Core.Path.{◌≡◌}
use Rattle.theory.specs.Engine.{last_at}
use Rattle.rules.specs.View.{entries_of, journal_of}
use Rattle.rules.proofs.block.Journal.last_entry.Given as goal

abbrev pub invariant-loop-k : goal.invariant-loop-k
invariant-loop-k l = last_at (entries_of l.k l.self) l.c.0 ≡ last_at (journal_of l.self) l.c.0
