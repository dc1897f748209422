-- The first i reads fit, and the last of their checkpoints has so many entries as were seen before,
-- so the rest decides; after the last read these are compared with the journal's.
use borrow.Author.Rules.{rules}
use Rattle.rules.proofs.Laws.Arrays.{array_laws}
use Rattle.rules.proofs.Laws.Sizes.{reads_laws}
use Rattle.rules.proofs.sizes.reads_fit.Goals as goal

pub returns-then-rs-gt-FEW : goal.returns-then-rs-gt-FEW
returns-then-rs-gt-FEW c = search (reads_laws, array_laws, rules)

pub loop-i-init : goal.loop-i-init
loop-i-init c = search (reads_laws, array_laws, rules)

pub returns-then-not-read_fits : goal.returns-then-not-read_fits
returns-then-not-read_fits c = search (reads_laws, array_laws, rules)

pub loop-i-preserved : goal.loop-i-preserved
loop-i-preserved c = search (reads_laws, array_laws, rules)

pub returns : goal.returns
returns c = search (reads_laws, array_laws, rules)
