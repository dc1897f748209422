-- 255 stands for no mark, which fits;
-- any other mark is tested as in the definition.
use borrow.Author.Rules.{rules}
use borrow.Author.Tests.{tests}
use Rattle.rules.specs.View.{mark_of}
use Rattle.rules.specs.Sizes.{mark_within}
use Rattle.rules.proofs.sizes.mark_fits.Goals as goal

pub returns-then-rs : goal.returns-then-rs
unfolding mark_within mark_of
returns-then-rs c = search (rules, tests)

pub returns-else-rs : goal.returns-else-rs
unfolding mark_within mark_of
returns-else-rs c = search (rules, tests)
