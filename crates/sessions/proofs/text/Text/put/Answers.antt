-- A byte goes to its place,
-- or nowhere if the buffer is full.
use borrow.Author.Rules.{rules}
use Rattle.sessions.proofs.Laws.Text.{put_laws}
use Rattle.sessions.proofs.text.Text.put.Goals as goal

pub returns-then-self : goal.returns-then-self
returns-then-self c = search (put_laws, rules)

pub returns-else-self : goal.returns-else-self
returns-else-self c = search (put_laws, rules)
