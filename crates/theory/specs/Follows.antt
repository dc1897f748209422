-- Document 01, "Follows, and is to be proved": the run of a job's start on the values in a list of reads, and where it stands.
-- The theorem is in proofs/Follows.antt.
use Rattle.std.specs.Prelude.{ℕ, zero, suc, Option, None, Some}
use mathlib.Core.List.{List, [], ◌∷◌, ◌++◌}
use Rattle.theory.specs.Promise.{Act, nothing, read, write, stop, abandon, stuck, Machine}
use Rattle.theory.specs.Engine.{Entry, Read, or_else, last_value, listed_value}

-- where a run stands
pub record Stand (S : Type 0) : Type 0 where
  pub state : S
  pub journal : List Entry

module _ (M : Machine) where
  open M use {S, act, given}

  abbrev pub at : S → List Entry → Stand S
  at s j = record { state = s; journal = j }

  abbrev pub gives : S → List Entry → Option ℕ → Option (Stand S)
  gives s j (Some v) = Some (at (given s v) j)
  gives s j None = None

  -- one instruction of a run on a list of reads: a READ takes the own last entry of the cell, failing that the value in the list.
  -- none where the list has no value, or the job ends or is stuck
  abbrev pub instruction : List (Read S) → S → List Entry → Act S → Option (Stand S)
  instruction rs s j (nothing t) = Some (at t j)
  instruction rs s j (read c) = gives s j (or_else (last_value j c) (listed_value rs c))
  instruction rs s j (write c v t) = Some (at t (j ++ (record { cell = c; value = v } ∷ [])))
  instruction rs s j stop = None
  instruction rs s j abandon = None
  instruction rs s j stuck = None

  abbrev pub onwards : List (Read S) → Option (Stand S) → Option (Stand S)
  onwards rs None = None
  onwards rs (Some x) = instruction rs x.state x.journal (act x.state)

  -- the run of n instructions from a start is that of n - 1, and one more
  unfoldable pub run_on : List (Read S) → S → ℕ → Option (Stand S)
  run_on rs start zero = Some (at start [])
  run_on rs start (suc n) = onwards rs (run_on rs start n)
