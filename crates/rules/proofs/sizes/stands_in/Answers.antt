-- The test of the place, then that of the height,
-- as in the definition.
use borrow.Author.Rules.{rules}
use borrow.Author.Tests.{tests}
use Rattle.rules.specs.Sizes.{stands_in}
use Rattle.rules.proofs.sizes.stands_in.Goals as goal

pub returns-then-s-size : goal.returns-then-s-size
unfolding stands_in
returns-then-s-size c = search (rules, tests)

pub returns-else-s-size : goal.returns-else-s-size
unfolding stands_in
returns-else-s-size c = search (rules, tests)
