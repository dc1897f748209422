-- Each instruction so far was tested,
-- and after the last all were.
use Rattle.std.proofs.Common.{refl, arith}
use Rattle.rules.specs.Sizes.{passes}
use Rattle.rules.proofs.Laws.Code.{next_some, code_long, code_on, code_end}
use Rattle.rules.proofs.sizes.code_fits.Goals as goal

pub returns-then-job-gt-LONGEST : goal.returns-then-job-gt-LONGEST
returns-then-job-gt-LONGEST c = code_long _ _ _ c.if-job-gt-LONGEST.true

pub loop-p-init : goal.loop-p-init
unfolding passes
loop-p-init c = refl

pub keeps-fits-requires : goal.keeps-fits-requires
keeps-fits-requires c = next_some _ _ c.next_places-nexts.ensures (omega arith)

pub loop-p-preserved : goal.loop-p-preserved
loop-p-preserved c = code_on _ _ _ _ _ c.loop-p.invariant (omega arith) _ c.next_places-nexts.ensures _ c.keeps-fits.ensures

pub returns : goal.returns
returns c = code_end _ _ _ c.if-job-gt-LONGEST.false _ _ c.loop-p.invariant (omega arith)
