-- What the instruction asks is done,
-- and each arm is the clause of its act.
use borrow.Author.Rules.{rules}
use Rattle.rules.proofs.Laws.Take.{own_step_laws}
use Rattle.rules.proofs.own.Turning.step_or_end.Goals as goal

pub returns-in-Nothing : goal.returns-in-Nothing
returns-in-Nothing c = search (own_step_laws, rules)

pub returns-in-Read : goal.returns-in-Read
returns-in-Read c = search (own_step_laws, rules)

pub returns-in-Write : goal.returns-in-Write
returns-in-Write c = search (own_step_laws, rules)

pub returns-in-Stop : goal.returns-in-Stop
returns-in-Stop c = search (own_step_laws, rules)

pub returns-in-Abandon : goal.returns-in-Abandon
returns-in-Abandon c = search (own_step_laws, rules)

pub returns-in-Stuck : goal.returns-in-Stuck
returns-in-Stuck c = search (own_step_laws, rules)
