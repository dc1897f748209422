-- The bounds by code are those of the operand's column,
-- and PUSH takes any operand.
use Rattle.rules.proofs.Laws.Code.{keeps_law}
use Rattle.rules.proofs.sizes.keeps.Goals as goal

pub returns : goal.returns
returns c = keeps_law _ _ _ _ _ _ c.requires c.by_code.ensures c.by_code-2.ensures
