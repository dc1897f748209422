-- The statuses are looked at from the last,
-- and those below it are fewer.
use Rattle.std.proofs.Common.{length}
use Rattle.rules.proofs.own.+all_final.Given as goal

abbrev pub decreases-all_final : goal.decreases-all_final
decreases-all_final l = length l.status.now
