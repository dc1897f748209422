-- The block fits, so its table is settled,
-- and the cells that are put are those.
use borrow.Author.Rules.{rules}
use Rattle.sessions.proofs.Laws.Play.{settled_put}
use Rattle.sessions.proofs.play.put_settled.Goals as goal

pub returns : goal.returns
returns c = search (settled_put, rules)
