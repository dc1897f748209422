-- The line is its pieces,
-- each where the last one ended.
use Rattle.sessions.specs.Text.{refused_line}
use Rattle.sessions.proofs.Laws.Text.{written_then}
use Rattle.sessions.proofs.text.Text.put_refusal.Goals as goal

pub returns : goal.returns
unfolding refused_line
returns c = rw (← c.from.ensures) (written_then c.put_all.ensures (written_then c.put_decimal.ensures c.put_where.ensures))
