-- A space, and the number
-- where it ended.
use Rattle.sessions.specs.Text.{spaced}
use Rattle.sessions.proofs.Laws.Text.{written_then}
use Rattle.sessions.proofs.text.Text.put_spaced.Goals as goal

pub returns : goal.returns
unfolding spaced
returns c = written_then c.put.ensures c.put_decimal.ensures
