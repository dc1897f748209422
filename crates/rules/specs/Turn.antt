-- One turn on the code's block: the words, what a move does, and the plain moves of the job at an index.
use Rattle.std.specs.Prelude.{◌≡◌, Bool, true, cond, ◌&&◌, ◌||◌, List, ℕ, zero, suc, ◌+◌, ◌*◌, ◌≤◌, ◌<◌, eqb, leb, ltb, length, get_or, Option, None, Some}
use Rattle.theory.specs.Word as W
unfoldable pub use Rattle.theory.specs.Word.{leaves}
unfoldable pub use Rattle.words.specs.Words.{word_of}
use Rattle.words.specs.Words.{refusal_of}
use Rattle.theory.specs.Promise.{read}
use Rattle.theory.specs.Engine as E
use Rattle.machine.specs.Limits.{ROOM, FEW}
use Rattle.machine.specs.Machine.{Running, given}
use Rattle.machine.specs.View.{state_of}
use Rattle.machine.specs.declared.job.State.{State}
use Rattle.rules.specs.Box.{box, limits}
use Rattle.rules.specs.Program.{no_program}
use Rattle.rules.specs.View.{entry_of, no_read, no_reads}
use Rattle.rules.specs.Block.{code_at, no_state, no_checkpoint, running_of, job_of, block_of}
use Rattle.rules.specs.Moves.{Sized, Held}
use Rattle.rules.specs.declared.block.Entry.{Entry}
use Rattle.rules.specs.declared.block.Reads.{Reads}
use Rattle.rules.specs.declared.block.Block.{Block}
use Rattle.rules.specs.declared.block.Turned.{Turned}

-- the value of a listed read of a cell, from place k on for m reads
unfoldable pub listed_from : Reads → ℕ → ℕ → ℕ → Option ℕ
listed_from r c k zero = None
listed_from r c k (suc m) = cond (eqb (get_or r.reads k no_read).cell.0 c) (Some (get_or r.reads k no_read).value) (listed_from r c (suc k) m)

abbrev pub listed_in : Reads → ℕ → Option ℕ
listed_in r c = listed_from r c 0 r.size

-- are the jobs at the indices below k final?
unfoldable pub final_below : List ℕ → ℕ → Bool
final_below ss zero = true
final_below ss (suc k) = leb 2 (get_or ss k 0) && final_below ss k

-- ---- the plain moves of the job at index i
abbrev pub jobs : Block → ℕ → E.Job Running
jobs b = E.job_at limits box (block_of b)

abbrev pub cells : Block → ℕ → ℕ
cells b = E.cell_at limits box (block_of b)

unfoldable pub outside : Block → ℕ → ℕ → E.Moved Running
outside b i c = E.read_step FEW box (cells b) (job_of b i) c None None (E.find (cells b) (jobs b) c i)

unfoldable pub reading : Block → ℕ → ℕ → E.Moved Running
reading b i c = E.instructed FEW box (cells b) (jobs b) i (job_of b i) (read c)

unfoldable pub writing : Block → ℕ → State → Entry → E.Moved Running
writing b i next e = cond (ltb (length (job_of b i).journal) FEW) (E.moved W.step (E.write_to (job_of b i) (running_of (code_at b i) next) (entry_of e))) (E.moved W.stuck (job_of b i))

unfoldable pub returning : Block → ℕ → E.Moved Running
returning b i = E.moved W.back (E.go_back (job_of b i) (E.checkpoint_at (job_of b i) (get_or b.reads i no_reads).mark))

unfoldable pub stepping : Block → ℕ → E.Moved Running
stepping b i = E.instructed FEW box (cells b) (jobs b) i (job_of b i) (box.act (job_of b i).state)

unfoldable pub moving : Block → ℕ → E.Moved Running
moving b i = E.ruled FEW box (cells b) (jobs b) i (job_of b i) (job_of b i).status (job_of b i).mark

-- is a ticket none of a block of so many jobs?
abbrev pub foreign : ℕ → ℕ → Bool
foreign n t = eqb t 0 || ltb n t

-- the code's answer is this move of the job at index i; what the words leave, they leave to the last byte
pub record Did (b : Block) (i : ℕ) (m : E.Moved Running) (r : Turned) : Type 0 where
  pub word : word_of r.word ≡ m.word
  pub block : block_of r.block ≡ (E.move_to limits box (block_of b) i m.word m.job).block
  pub left : leaves m.word ≡ true → r.block ≡ b

-- what the plain block does not show, and turns leave or fix all the same: the programs stay to the last byte, and so does the status of
-- a final job; any other is 0, 1 or 2
pub record Keeps (b r : Block) : Type 0 where
  pub programs : r.jobs ≡ b.jobs
  pub final : (k : ℕ) → 2 ≤ get_or b.status k 0 → get_or r.status k 0 ≡ get_or b.status k 0
  pub other : (k : ℕ) → get_or b.status k 0 < 2 → get_or r.status k 0 ≤ 2

-- the code's answer is the plain turn of ticket t
pub record Turns (b : Block) (t : ℕ) (r : Turned) : Type 0 where
  pub word : word_of r.word ≡ (E.turn limits box (block_of b) t).word
  pub refusal : refusal_of r.word ≡ W.refusal (E.turn limits box (block_of b) t).word
  pub block : block_of r.block ≡ (E.turn limits box (block_of b) t).block
  pub keeps : Keeps b r.block
  pub left : leaves (E.turn limits box (block_of b) t).word ≡ true → r.block ≡ b

-- the state after a READ, before and after its value is given
pub record Reading (b : Block) (i : ℕ) (next : State) (c : ℕ) : Type 0 where
  pub cell : c < 256
  pub value : (v : ℕ) → record { code = code_at b i; state = given ROOM v (state_of next) } ≡ box.given (job_of b i).state v

-- all that a turn may take for granted of a block that fits
pub record Whole (b : Block) : Type 0 where
  pub sized : Sized b
  pub short : (k : ℕ) → k < b.count → (get_or b.jobs k no_program).size ≤ 64
  pub inside : (k : ℕ) → k < b.count → (get_or b.states k no_state).place.0 < (get_or b.jobs k no_program).size
  pub marked : (k : ℕ) → k < b.count → ((get_or b.reads k no_reads).mark ≡ 255 → ⊥) → (get_or b.reads k no_reads).mark < (get_or b.reads k no_reads).size
  pub held : (k i : ℕ) → k < b.count → i < (get_or b.reads k no_reads).size → Held b k (get_or b.checkpoints (8 * k + i) no_checkpoint)

-- the job at index i is marked, at one of its reads
pub record Marked (b : Block) (i : ℕ) : Type 0 where
  pub at : (get_or b.reads i no_reads).mark < (get_or b.reads i no_reads).size
  pub low : (get_or b.reads i no_reads).mark < 8
