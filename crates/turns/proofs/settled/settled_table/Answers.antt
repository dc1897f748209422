-- 12 before 20, and either returns before any store;
-- a block that fits shows versions that can be read, so every cell is written.
use mathlib.Core.Path.{sym}
use Rattle.turns.proofs.Laws.Settled.{settle_wrong, settle_misfit, settle_written, settle_count, settle_low, settle_showing}
use Rattle.turns.proofs.settled.settled_table.Goals as goal

pub returns-then-table : goal.returns-then-table
returns-then-table c = settle_wrong _ _ c.if-table.true

pub returns-then-not-block_fits : goal.returns-then-not-block_fits
returns-then-not-block_fits c = settle_misfit _ _ c.if-table.false (sym c.if-not-block_fits.ensures)

pub count_finals-f-requires : goal.count_finals-f-requires
count_finals-f-requires c = settle_count _ (sym c.if-not-block_fits.ensures)

pub settle_cells-requires : goal.settle_cells-requires
settle_cells-requires c = let fit = sym c.if-not-block_fits.ensures in (settle_low _ fit _ c.count_finals-f.ensures, settle_showing _ fit _ c.count_finals-f.ensures)

pub returns : goal.returns
returns c = settle_written _ _ c.if-table.false _ _ (sym c.if-not-block_fits.ensures) c.count_finals-f.ensures c.settle_cells.ensures
