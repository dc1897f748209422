-- 15 before any turn;
-- else all turns are taken, and the answer says so.
use borrow.Author.Rules.{rules}
use Rattle.turns.proofs.Laws.Many.{taken_all, wrong_length}
use Rattle.turns.proofs.many.take_turns.Goals as goal

pub returns-then-words-tickets : goal.returns-then-words-tickets
returns-then-words-tickets c = search (wrong_length, rules)

pub returns : goal.returns
returns c = search (taken_all, rules)
