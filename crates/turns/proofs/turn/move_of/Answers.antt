-- The job stands at one of its instructions,
-- and the rules take its parts as they stand in a block that fits.
use mathlib.Core.Path.{refl}
use borrow.Author.Rules.{rules}
use Rattle.rules.proofs.Laws.Take.{steps_cells}
use Rattle.turns.proofs.Laws.Store.{standing, ready, moved}
use Rattle.turns.proofs.turn.move_of.Goals as goal

pub step-step-requires : goal.step-step-requires
step-step-requires c = let may = c.requires.1 in rw may.own (standing _ _ may.mine may.fit _ may.index)

pub cell_read-requires : goal.cell_read-requires
cell_read-requires c = steps_cells _ _ _ c.step-step.ensures

pub invariant_of-taking : goal.invariant_of-taking
invariant_of-taking c =
    let may = c.requires.1 in
    record { ready = ready _ _ may.mine may.fit (search (c.well_formed, rules)) _ _ may.index refl _ may.own _ c.slot_of.ensures.0 _ refl }

pub returns : goal.returns
returns c =
    let may = c.requires.1 in
    moved _ _ may.mine may.fit (search (c.well_formed, rules)) _ _ may.index refl _ may.own _ c.slot_of.ensures.0 _ refl
    _ (rw may.own at c.step-step.ensures) _ c.cell_read.ensures _ c.take.ensures
