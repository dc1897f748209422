-- The parts that the code finds are those of the session,
-- so each way prints the text of that case.
use Rattle.sessions.proofs.Laws.Play.{session_breach, session_opened, opened_fresh}
use Rattle.sessions.proofs.play.put_session.Goals as goal

pub returns-in-None : goal.returns-in-None
returns-in-None c = session_breach c.args.input.now c.in-None.ensures c.put_refusal.ensures

pub put_opened-requires : goal.put_opened-requires
put_opened-requires c = opened_fresh c.open-opened.ensures c.in-Some.ensures.1

pub returns-in-Some : goal.returns-in-Some
returns-in-Some c = session_opened c.args.input.now c.in-Some.ensures.0 c.open-opened.ensures c.put_opened.ensures
