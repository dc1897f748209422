-- Each instruction so far was tested,
-- and the rest follow.
use Rattle.std.proofs.Common.{◌≡◌}
use Rattle.rules.specs.Sizes.{passes}
use Rattle.rules.proofs.Laws.Code.{keeps_in}
use Rattle.rules.proofs.sizes.code_fits.Given as goal

abbrev pub invariant-loop-p : goal.invariant-loop-p
invariant-loop-p l = l.fits ≡ passes (keeps_in l.job.codes l.job.arguments l.job.size) 0 l.p
