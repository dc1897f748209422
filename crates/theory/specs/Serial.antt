-- Document 01, "Running serially": a job alone on a table, and the first f jobs one after another.
use Rattle.std.specs.Prelude.{List, [], ◌∷◌, ◌++◌, ℕ, zero, suc, unwrap_or}
use Rattle.theory.specs.Promise.{nothing, read, write, stop, abandon, stuck, Machine}
use Rattle.theory.specs.Engine.{Entry, last_value}

-- a table with a journal's writes over it, in order: the last entry for each cell
abbrev pub over : List Entry → (ℕ → ℕ) → ℕ → ℕ
over j table c = unwrap_or (last_value j c) (table c)

module _ (M : Machine) where
  open M use {S, act, given, left}

  -- at most n instructions of a job from s on, with journal j: it reads its own last write of a cell, else the table;
  -- STOP applies its writes, ABANDON none
  unfoldable pub solo : ℕ → (ℕ → ℕ) → List Entry → S → ℕ → ℕ
  solo zero table j s = table
  solo (suc n) table j s = elim (act s) [
    | nothing t ↦ solo n table j t
    | read c ↦ solo n table j (given s (over j table c))
    | write c v t ↦ solo n table (j ++ (record { cell = c; value = v } ∷ [])) t
    | stop ↦ over j table
    | abandon ↦ table
    | stuck ↦ table
  ]

  unfoldable pub alone : (ℕ → ℕ) → S → ℕ → ℕ
  alone table s = solo (suc (left s)) table [] s

  -- the run of the first f jobs is the run of the first f - 1, then job f alone
  unfoldable pub serial : (ℕ → ℕ) → (ℕ → S) → ℕ → ℕ → ℕ
  serial table start zero = table
  serial table start (suc f) = alone (serial table start f) (start f)
