-- Each range of codes is a case of the definition,
-- and each return is its case.
use borrow.Author.Rules.{rules}
use borrow.Author.Tests.{tests}
use Rattle.rules.specs.Sizes.{by_code}
use Rattle.rules.proofs.sizes.by_code.Goals as goal

pub returns-in-4-to-5 : goal.returns-in-4-to-5
unfolding by_code
returns-in-4-to-5 c = search (rules, tests)

pub returns-in-12-to-255 : goal.returns-in-12-to-255
unfolding by_code
returns-in-12-to-255 c = search (rules, tests)

pub returns-in_default : goal.returns-in_default
unfolding by_code
returns-in_default c = search (rules, tests)

pub returns-in_default-2 : goal.returns-in_default-2
unfolding by_code
returns-in_default-2 c = search (rules, tests)
