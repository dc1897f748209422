-- What the rules make of the job's parts is stored where they stand,
-- and a block that fits goes on fitting.
use borrow.Author.Rules.{rules}
use Rattle.turns.proofs.Laws.Store.{few_tickets, may_move, may_mark, stored_in}
use Rattle.turns.proofs.turn.take_own_turn.Goals as goal

pub index_of-i-requires : goal.index_of-i-requires
index_of-i-requires c = few_tickets _ _ c.requires.0 c.requires.1

pub move_of-done-requires : goal.move_of-done-requires
move_of-done-requires c = (
  c.index_of-i.ensures.1,
  may_move _ _ c.requires.0 c.requires.1 (search (c.well_formed, rules)) _ _ c.index_of-i.ensures.0 c.slot_of-slot.ensures.0 _ c.of-own.ensures,
)

pub list_reads-requires : goal.list_reads-requires
list_reads-requires c = (
  c.index_of-i.ensures.1,
  may_mark _ _ c.requires.0 c.requires.1 (search (c.well_formed, rules)) _ _ c.index_of-i.ensures.0 c.slot_of-slot.ensures.0 _ c.of-own.ensures _ c.move_of-done.ensures,
)

pub returns : goal.returns
returns c =
    stored_in _ _ c.requires.0 c.requires.1 (search (c.well_formed, rules)) _ _ c.index_of-i.ensures.0 c.slot_of-slot.ensures.0 _ c.of-own.ensures _ c.move_of-done.ensures _ c.list_reads.ensures
