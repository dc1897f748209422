-- What an engine may know of a machine: what one instruction asks of its surroundings, and the promise.
use Rattle.std.specs.Prelude.{◌≡◌, ◌≢◌, Bool, true, ℕ, ◌≤◌, ◌<◌}

-- what the instruction at which a state stands asks: nothing, a cell's value, a write of a value to a cell; or that the job ends
pub data Act (S : Type 0) : Type 0 where
  nothing : S → Act S
  read : ℕ → Act S
  write : ℕ → ℕ → S → Act S
  stop abandon stuck : Act S

-- a state is a place and a stack in a job, with no journal and no reads. `given s v` is the state after a READ at s that got the value v;
-- `left` counts the instructions ahead; `fits` tests the state's own sizes; `nowhere` stands where a block has no job
pub record Machine : Type 1 where
  pub S : Type 0
  pub act : S → Act S
  pub given : S → ℕ → S
  pub left : S → ℕ
  pub fits : S → Bool
  pub nowhere : S

-- of every state, checked or not: each instruction leaves fewer ahead, keeps the sizes, and names a cell of the table
pub record Promise (cells : ℕ) (M : Machine) : Type 0 where
  pub after_nothing : (s t : M.S) → M.act s ≡ nothing t → M.left t < M.left s
  pub after_read : (s : M.S) (c v : ℕ) → M.act s ≡ read c → M.left (M.given s v) < M.left s
  pub after_write : (s t : M.S) (c v : ℕ) → M.act s ≡ write c v t → M.left t < M.left s
  pub fits_nothing : (s t : M.S) → M.fits s ≡ true → M.act s ≡ nothing t → M.fits t ≡ true
  pub fits_read : (s : M.S) (c v : ℕ) → M.fits s ≡ true → M.act s ≡ read c → M.fits (M.given s v) ≡ true
  pub fits_write : (s t : M.S) (c v : ℕ) → M.fits s ≡ true → M.act s ≡ write c v t → M.fits t ≡ true
  pub cell_read : (s : M.S) (c : ℕ) → M.act s ≡ read c → c < cells
  pub cell_write : (s t : M.S) (c v : ℕ) → M.act s ≡ write c v t → c < cells

-- of a checked job's states, whatever values its reads were given: none is stuck, each leads to such a state,
-- and what is left of READ and WRITE falls with each that is done
pub record Checked (M : Machine) : Type 1 where
  pub Ok : M.S → Type 0
  pub reads_left : M.S → ℕ
  pub writes_left : M.S → ℕ
  pub ok_fits : (s : M.S) → Ok s → M.fits s ≡ true
  pub not_stuck : (s : M.S) → Ok s → M.act s ≢ stuck
  pub some_left : (s : M.S) → Ok s → 1 ≤ M.left s
  pub ok_nothing : (s t : M.S) → Ok s → M.act s ≡ nothing t → Ok t × (reads_left t ≤ reads_left s) × (writes_left t ≤ writes_left s)
  pub ok_read : (s : M.S) (c v : ℕ) → Ok s → M.act s ≡ read c → Ok (M.given s v) × (reads_left (M.given s v) < reads_left s) × (writes_left (M.given s v) ≤ writes_left s)
  pub ok_write : (s t : M.S) (c v : ℕ) → Ok s → M.act s ≡ write c v t → Ok t × (reads_left t ≤ reads_left s) × (writes_left t < writes_left s)

-- a job that passed, at its start: at most `few` READ and `few` WRITE in any run, and no READ comes first
pub record Passed (M : Machine) (K : Checked M) (few : ℕ) (s : M.S) : Type 0 where
  pub ok : K.Ok s
  pub few_reads : K.reads_left s ≤ few
  pub few_writes : K.writes_left s ≤ few
  pub not_read_first : (c : ℕ) → M.act s ≢ read c
