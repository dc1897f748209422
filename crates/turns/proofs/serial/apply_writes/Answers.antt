-- The table is the first k entries over the table at the start,
-- and the store of the next entry is one entry more.
use borrow.Author.Rules.{rules}
use Rattle.rules.proofs.Laws.Arrays.{array_laws}
use Rattle.turns.proofs.Laws.Serial.{apply_start, apply_cell, apply_on, apply_end}
use Rattle.turns.proofs.serial.apply_writes.Goals as goal

pub loop-e-init : goal.loop-e-init
loop-e-init c = (c.requires, apply_start _ _)

pub bounds-table-e : goal.bounds-table-e
bounds-table-e c = apply_cell _ c.requires (search (c.well_formed, array_laws, rules)) _ c.loop-e-test.true

pub loop-e-preserved : goal.loop-e-preserved
loop-e-preserved c =
    let g = c.loop-e.invariant in
    (g.0, apply_on _ g.0 (search (c.well_formed, array_laws, rules)) _ c.loop-e-test.true _ _ (search rules) g.1)

pub returns : goal.returns
returns c = apply_end _ c.requires (search (c.well_formed, array_laws, rules)) _ _ _ c.loop-e-test.false c.loop-e.auto.e-index-end c.loop-e.invariant.1
