-- The tests stand in the definition's order,
-- and the first that fails is the answer.
use Rattle.std.proofs.Common.{arith}
use Rattle.std.proofs.lemmas.Grind.{common_steps}
use borrow.Author.Rules.{rules}
use borrow.Author.Tests.{tests}
use Rattle.rules.specs.Sizes.{read_within}
use Rattle.rules.proofs.sizes.read_fits.Goals as goal

pub returns-then-c-i : goal.returns-then-c-i
unfolding read_within
returns-then-c-i c = search (rules, tests)

pub returns-else-c-i : goal.returns-else-c-i
unfolding read_within
returns-else-c-i c = grind (arith, common_steps)
