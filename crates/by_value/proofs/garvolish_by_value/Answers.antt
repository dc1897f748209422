-- The turn taken is the first of those still to take, from the block that the last one gave back,
-- so the turns after it give the rest of the whole list's bytes.
use mathlib.Core.Path.{ap, ◌∙◌}
use Rattle.turns.specs.Going.{going_on}
use Rattle.turns.specs.Many.{byte_of}
use Rattle.by_value.proofs.garvolish_by_value.Goals as goal

pub loop-k-preserved : goal.loop-k-preserved
loop-k-preserved c = rw c.turn-turned.ensures.block (going_on _ _ _ _ _ c.loop-k.invariant _ c.loop-k-test.true (c.byte.ensures ∙ ap byte_of c.turn-turned.ensures.word))
