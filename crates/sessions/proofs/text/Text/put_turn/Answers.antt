-- The line is its pieces,
-- each where the last one ended.
use Rattle.sessions.specs.Text.{turn_line, named}
use Rattle.sessions.proofs.Laws.Text.{written_then}
use Rattle.sessions.proofs.text.Text.put_turn.Goals as goal

pub returns : goal.returns
unfolding turn_line named
returns c =
    rw (← c.from.ensures) (written_then (written_then c.put_decimal.ensures (written_then c.put.ensures c.put_word.ensures)) c.put_last.ensures)
