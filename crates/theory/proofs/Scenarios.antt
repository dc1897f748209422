-- The scenarios, computed: each settles the table of the serial run. With one of the rules changed, one of them settles another table, or is stuck.
use Rattle.std.specs.Prelude.{◌≡◌, refl, map}
use Rattle.theory.specs.Engine.{search, shown, move, job_fits, block_fits, turn, turns, settled}
use Rattle.theory.specs.Serial.{solo, alone, serial}
use Rattle.theory.specs.Scenarios.{scenarios, settles, serves}

pub rules_matter : map settles scenarios ≡ map serves scenarios
unfolding search shown move job_fits block_fits turn turns settled solo alone serial
rules_matter = refl
