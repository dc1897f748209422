-- Each place gets the number of the next,
-- which stays.
use Rattle.std.proofs.Common.{suc, arith, add-one}
use Rattle.rules.proofs.Laws.Filled.{fill_start, fill_on, fill_end}
use Rattle.rules.proofs.sizes.next_places.Goals as goal

pub loop-k-init : goal.loop-k-init
loop-k-init c = fill_start 0 suc 64

pub loop-k-preserved : goal.loop-k-preserved
loop-k-preserved c = rw c.from.ensures (fill_on 0 suc 64 _ _ c.loop-k.invariant c.loop-k-test.true _ (add-one _))

pub returns : goal.returns
returns c = fill_end 0 suc 64 _ _ c.loop-k.invariant (λ i m n. absurd (omega arith))
