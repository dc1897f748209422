-- A cell that is 0 has no line;
-- any other line is its pieces, each where the last one ended.
use borrow.Author.Tests.{eq-eqb, ne_eqb}
use Rattle.sessions.specs.Text.{cell_line}
use Rattle.sessions.proofs.Laws.Text.{written_none, written_then}
use Rattle.sessions.proofs.text.Text.put_cell.Goals as goal

pub returns-then-value-ne0 : goal.returns-then-value-ne0
unfolding cell_line
returns-then-value-ne0 c =
    rw (ne_eqb c.args.value 0 c.if-value-ne0.true, ← c.from.ensures)
    (written_then c.put_all.ensures (written_then c.put_decimal.ensures c.put_last.ensures))

pub returns-else-value-ne0 : goal.returns-else-value-ne0
unfolding cell_line
returns-else-value-ne0 c = rw (eq-eqb c.args.value 0 c.if-value-ne0.false) (written_none c.args.self.now)
