-- A refused turn leaves the block as it was;
-- another is the turn of a ticket of a block that fits.
use mathlib.Core.Path.{sym, ◌∙◌}
use Rattle.turns.proofs.Laws.Store.{in_refused, in_own, in_taken}
use Rattle.turns.proofs.turn.take_turn.Goals as goal

pub returns-in-Some : goal.returns-in-Some
returns-in-Some c = in_refused _ _ _ c.requires.0 c.requires.1 _ (sym c.in-Some.is ∙ c.refusal.ensures)

pub take_own_turn-requires : goal.take_own_turn-requires
take_own_turn-requires c = in_own _ _ _ c.requires.0 c.requires.1 (sym c.in-None.is ∙ c.refusal.ensures)

pub returns-in-None : goal.returns-in-None
returns-in-None c = in_taken _ _ _ c.requires.0 c.requires.1 (sym c.in-None.is ∙ c.refusal.ensures) _ c.take_own_turn.ensures
