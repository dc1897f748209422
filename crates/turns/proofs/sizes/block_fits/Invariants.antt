-- Each job is tested after those before it,
-- so those that are left decide.
use Rattle.rules.proofs.Laws.Sizes.{Testing}
use Rattle.turns.proofs.sizes.block_fits.Given as goal

abbrev pub invariant-loop-k : goal.invariant-loop-k
invariant-loop-k l = Testing l.b l.k-end l.k l.fits
