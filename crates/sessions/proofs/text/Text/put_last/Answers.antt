-- The number, and a newline
-- where it ended.
use Rattle.sessions.specs.Text.{last_of}
use Rattle.sessions.proofs.Laws.Text.{written_then}
use Rattle.sessions.proofs.text.Text.put_last.Goals as goal

pub returns : goal.returns
unfolding last_of
returns c = written_then c.put_spaced.ensures c.put.ensures
