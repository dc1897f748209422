-- The tests are tried in document 01's order,
-- and each return is the clause of its rule.
use borrow.Author.Rules.{rules}
use Rattle.rules.proofs.Laws.Take.{own_turn_laws}
use Rattle.rules.proofs.own.Turning.take.Goals as goal

pub returns-then-own-ge-FINAL : goal.returns-then-own-ge-FINAL
returns-then-own-ge-FINAL c = search (own_turn_laws, rules)

pub returns-then-own : goal.returns-then-own
returns-then-own c = search (own_turn_laws, rules)

pub returns-then-own-eq-RUNNING : goal.returns-then-own-eq-RUNNING
returns-then-own-eq-RUNNING c = search (own_turn_laws, rules)

pub returns-then-all_final : goal.returns-then-all_final
returns-then-all_final c = let e = rw c.from.ensures at c.all_final.ensures in search (own_turn_laws, rules)

pub returns : goal.returns
returns c = let e = rw c.from.ensures at c.all_final.ensures in search (own_turn_laws, rules)
