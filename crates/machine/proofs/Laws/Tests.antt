-- What a check that found nothing tells of the definition that it answers.
use Rattle.std.proofs.Common.{◌≡◌, Result, Ok, Err, sym, ap, ◌∙◌}
use Rattle.machine.specs.Verdict.{Finding, sound}
use Rattle.machine.specs.View.{finding_of}
use Rattle.machine.specs.declared.counts.Place.{Place}
use Rattle.machine.specs.declared.verdict.Fault.{Fault}
use Rattle.machine.specs.declared.verdict.Flaw.{Flaw}

-- a check that found nothing, and one that found a flaw
abbrev pub passing : Result (Unit {0}) Flaw
passing = Ok tt

abbrev pub flaw : Fault → Place → Result (Unit {0}) Flaw
flaw x p = Err (record { fault = x; place = p })

pub passed : (v : Result (Unit {0}) Flaw) (f : Finding) → finding_of v ≡ f → v ≡ Ok tt → f ≡ sound
unfolding finding_of
passed v f e t = sym e ∙ ap finding_of t
