-- Each place gets the number of the next,
-- which stays.
use Prim.Native.Nat.{suc}
use Rattle.rules.proofs.Laws.Filled.{Filling}
use Rattle.rules.proofs.sizes.next_places.Given as goal

abbrev pub invariant-loop-k : goal.invariant-loop-k
invariant-loop-k l = Filling 0 suc 64 l.k l.all
