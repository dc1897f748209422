-- None of the first k versions names an entry of the cell,
-- so what the rest show is what all show.
use mathlib.Core.Path.{◌≡◌}
use lib.ListN.{drop}
use Rattle.theory.specs.Engine.{shown_at}
use Rattle.rules.specs.View.{journal_of, versions_of}
use Rattle.rules.specs.Marks.{shown_in}
use Rattle.rules.proofs.marks.Shows.entry_for.Given as goal

abbrev pub invariant-loop-k : goal.invariant-loop-k
invariant-loop-k l = shown_at (journal_of l.self.journal) (drop l.k (versions_of l.self.versions)) l.c.0 ≡ shown_in l.self l.c.0
