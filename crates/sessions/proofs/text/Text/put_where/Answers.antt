-- The field, and the place
-- where it ended.
use Rattle.sessions.specs.Text.{where_of}
use Rattle.sessions.proofs.Laws.Text.{written_then}
use Rattle.sessions.proofs.text.Text.put_where.Goals as goal

pub returns : goal.returns
unfolding where_of
returns c = rw (← c.from.ensures, ← c.from-2.ensures) (written_then c.put_spaced.ensures c.put_last.ensures)
