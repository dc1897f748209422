-- The reads that are listed are the array's first,
-- and the first of them that is of the cell is the one that the definition finds.
use mathlib.Core.Path.{◌∙◌}
use borrow.Author.Rules.{rules}
use Rattle.rules.proofs.Laws.Arrays.{array_laws}
use Rattle.rules.proofs.Laws.Own.{listed_is}
use Rattle.rules.proofs.block.Reads.value_for.Goals as goal

pub returns : goal.returns
returns c = (rw c.from.ensures at c.value_in.ensures) ∙ listed_is c.args.self c.args.c.0 (search (array_laws, rules)) c.requires
