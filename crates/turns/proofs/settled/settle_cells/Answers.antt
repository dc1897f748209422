-- The table is what a reader above the first k jobs finds,
-- and what the next job shows goes over it.
use native.Mathlib.Omega.{arith}
use borrow.Author.Rules.{rules}
use mathlib.Core.Path.{◌≡◌}
use Rattle.turns.proofs.Laws.Settled.{found_start, found_on, found_end}
use Rattle.turns.proofs.settled.settle_cells.Goals as goal

pub loop-k-init : goal.loop-k-init
loop-k-init c = (c.requires.1, search (c.well_formed, rules), found_start _)

pub loop-k-preserved : goal.loop-k-preserved
loop-k-preserved c = let g = c.loop-k.invariant in (g.0, c.apply_versions.array_long, found_on _ _ _ _ g.2 c.apply_versions.ensures)

pub returns : goal.returns
returns c =
    let g = c.loop-k.invariant in
    let e : c.loop-k.k ≡ c.args.f = omega (arith, c.loop-k-test.false, c.loop-k.auto.k-end) in
    found_end _ _ _ g.1 (rw e at g.2)
