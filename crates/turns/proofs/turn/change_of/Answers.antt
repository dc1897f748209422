-- A refused turn gives its job's parts as they were, and another what the rules make of them:
-- the change of the plain turn.
use borrow.Author.Rules.{rules}
use Rattle.turns.proofs.Laws.Store.{few_if, may_move_if, may_mark_if, changes_if}
use Rattle.turns.proofs.turn.change_of.Goals as goal

pub index_in-i-requires : goal.index_in-i-requires
index_in-i-requires c = few_if _ _ _ c.block_fits.ensures _ c.refusal-refused.ensures

pub move_or_refuse-done-requires : goal.move_or_refuse-done-requires
move_or_refuse-done-requires c = (
  c.index_in-i.ensures.1,
  may_move_if _ _ _ c.block_fits.ensures _ c.refusal-refused.ensures (search (c.well_formed, rules)) _ _ c.index_in-i.ensures.0
      c.slot_of-slot.ensures.0 _ c.of-own.ensures,
)

pub change_by-requires : goal.change_by-requires
change_by-requires c = (
  c.index_in-i.ensures.1,
  may_mark_if _ _ _ c.block_fits.ensures _ c.refusal-refused.ensures (search (c.well_formed, rules)) _ _ c.index_in-i.ensures.0
      c.slot_of-slot.ensures.0 _ c.of-own.ensures _ c.move_or_refuse-done.ensures,
)

pub returns : goal.returns
returns c =
    changes_if _ _ _ c.block_fits.ensures _ c.refusal-refused.ensures (search (c.well_formed, rules)) _ _ c.index_in-i.ensures.0
    c.slot_of-slot.ensures.0 _ c.of-own.ensures _ c.move_or_refuse-done.ensures c.index_in-i.ensures.1 c.slot_of-slot.ensures.1
    _ c.change_by.ensures
