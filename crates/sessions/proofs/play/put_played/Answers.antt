-- The bytes of the turns make the lines of the turns, since f counts the final words;
-- the block still fits, so the settled cells follow.
use borrow.Author.Rules.{rules}
use Rattle.sessions.proofs.Laws.Play.{turned_laws}
use Rattle.sessions.proofs.play.put_played.Goals as goal

pub put_settled-requires : goal.put_settled-requires
put_settled-requires c = search (turned_laws, rules)

pub returns : goal.returns
returns c = search (turned_laws, rules)
