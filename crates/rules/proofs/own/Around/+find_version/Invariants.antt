-- The search ends at ticket 0, and goes one ticket lower where a job shows nothing;
-- the ticket is what falls.
use Rattle.rules.proofs.own.Around.+find_version.Given as goal

abbrev pub decreases-find_version : goal.decreases-find_version
decreases-find_version l = l.t.0
