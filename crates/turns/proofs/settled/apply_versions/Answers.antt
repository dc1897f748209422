-- The versions from the k-th on are over the table,
-- and the store of the one before it puts it over them.
use mathlib.Core.Path.{◌≡◌}
use mathlib.Core.List.{[]}
use lib.ListN.{length}
use borrow.Author.Rules.{rules}
use Rattle.turns.proofs.Laws.Settled.{shows_start, shows_cell, shows_on}
use Rattle.turns.proofs.settled.apply_versions.Goals as goal

pub loop-k-init : goal.loop-k-init
loop-k-init c = (c.requires.0, c.requires.1, shows_start _ _ _)

pub bounds-table-e : goal.bounds-table-e
bounds-table-e c =
    let g = c.loop-k.invariant in
    let size : length c.loop-k.table ≡ 256 = search rules in
    rw size at (shows_cell _ _ [] _ _ g.0 g.1 size c.loop-k-test.true c.loop-k.auto.k _ c.entry_at-e.ensures)

pub loop-k-preserved : goal.loop-k-preserved
loop-k-preserved c = let g = c.loop-k.invariant in (g.0, g.1, shows_on _ _ _ _ _ g.0 g.1 (search rules) c.loop-k-test.true c.loop-k.auto.k _ c.entry_at-e.ensures g.2)
