-- The plain engine of document 01's box: its limits, and the machine that the promise gives it.
use Rattle.theory.specs.Engine.{Limits}
use Rattle.machine.specs.Limits.{FEW, JOBS, CELLS}
pub use Rattle.promise.specs.Keeps.{box, box_checked, box_promise}

abbrev pub limits : Limits
limits = record { most_jobs = JOBS; cells = CELLS; few = FEW }
