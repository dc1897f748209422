-- The own parts of one job, what a turn makes of them, and the block in which they are placed.
use Rattle.std.specs.Prelude.{◌≡◌, Bool, true, false, cond, ◌⊎◌, List, [], ◌∷◌, ◌++◌, ℕ, ◌+◌, ◌-◌, ◌*◌, ◌≤◌, ◌<◌, leb, length, get_or, set}
use Rattle.theory.specs.Engine as E
use Rattle.theory.specs.Engine.{withdrawn}
use Rattle.machine.specs.Limits.{CELLS}
use Rattle.machine.specs.Machine.{Running}
use Rattle.machine.specs.declared.job.State.{State}
use Rattle.machine.specs.declared.counts.Cell.{Cell}
use Rattle.machine.specs.declared.step.Act.TheVariants.{Read as ReadAct}
use Rattle.machine.specs.declared.step.Stepped.{Stepped}
use Rattle.rules.specs.View.{entry_of, journal_of, versions_of, no_journal, no_versions, no_reads, Showing, ShowingBelow}
use Rattle.rules.specs.Block.{code_at, no_state, no_checkpoint}
use Rattle.rules.specs.Steps.{StepsIn}
use Rattle.rules.specs.Marks.{Shown, mark_reads, sweep, ListsFit}
use Rattle.rules.specs.Moves.{Adds}
use Rattle.rules.specs.Turn.{Did, Reading, Whole}
use Rattle.rules.specs.declared.block.Entry.{Entry}
use Rattle.rules.specs.declared.block.Journal.{Journal}
use Rattle.rules.specs.declared.block.Versions.{Versions}
use Rattle.rules.specs.declared.block.Checkpoint.{Checkpoint}
use Rattle.rules.specs.declared.block.Read.{Read}
use Rattle.rules.specs.declared.block.Reads.{Reads}
use Rattle.rules.specs.declared.block.Block.{Block}
use Rattle.rules.specs.declared.marks.Shows.{Shows}
use Rattle.words.specs.declared.word.Word.{Word}
use Rattle.words.specs.declared.word.Word.TheVariants.{Back, Step, End, Final}
use Rattle.rules.specs.declared.block.Turned.{Turned}
use Rattle.rules.specs.declared.own.Own.{Own}
use Rattle.rules.specs.declared.own.Around.{Around}
use Rattle.rules.specs.declared.own.Move.{Move}

-- ---- what a rule makes of a job's parts
-- a move after which nobody is marked
abbrev pub still : Word → Own → Move
still w o = record { own = o; word = w; marks = false }

-- one that may change what is public, so that the higher jobs are to be marked
abbrev pub publishing : Word → Own → Move
publishing w o = record { own = o; word = w; marks = true }

abbrev pub stepped : Own → State → Move
stepped o s = still Step (record { state = s; status = o.status; journal = o.journal; versions = o.versions; list = o.list; slot = o.slot })

abbrev pub wrote : Own → State → Journal → Move
wrote o s j = still Step (record { state = s; status = o.status; journal = j; versions = o.versions; list = o.list; slot = o.slot })

abbrev pub listed : Own → State → Reads → Checkpoint → Move
listed o s l c = still Step (record { state = s; status = o.status; journal = o.journal; versions = o.versions; list = l; slot = c })

abbrev pub ended : Own → Versions → Move
ended o v = publishing End (record { state = o.state; status = 1; journal = o.journal; versions = v; list = o.list; slot = o.slot })

abbrev pub settled_own : Own → Move
settled_own o = still Final (record { state = o.state; status = 2; journal = o.journal; versions = o.versions; list = o.list; slot = o.slot })

abbrev pub went_back : Own → State → Journal → Versions → Reads → Move
went_back o s j v l = publishing Back (record { state = s; status = 0; journal = j; versions = v; list = l; slot = o.slot })

pub record Wrote (o : Own) (s : State) (e : Entry) (m : Move) : Type 0 where
  pub journal : journal_of m.own.journal ≡ journal_of o.journal ++ (entry_of e ∷ [])
  pub move : m ≡ wrote o s m.own.journal

pub record Lists (o : Own) (s : State) (x : Read) (m : Move) : Type 0 where
  pub adds : Adds o.list x m.own.list
  pub move : m ≡ listed o s m.own.list (record { state = o.state; writes = o.journal.size; listed = o.list.size })

-- ---- the parts of the job at index i of a block
-- where the checkpoint of the n-th read of the job at index i stands; past the last of its eight, the last
abbrev pub slot_at : ℕ → ℕ → ℕ
slot_at i n = 8 * i + cond (leb 8 n) 7 n

-- the parts, with the slot at s
abbrev pub parts_at : Block → ℕ → ℕ → Own
parts_at b i s = record {
  state = get_or b.states i no_state;
  status = get_or b.status i 0;
  journal = get_or b.journals i no_journal;
  versions = get_or b.versions i no_versions;
  list = get_or b.reads i no_reads;
  slot = get_or b.checkpoints s no_checkpoint;
}

-- .. with the slot of the next listed read
abbrev pub own_of : Block → ℕ → Own
own_of b i = parts_at b i (slot_at i (get_or b.reads i no_reads).size)

abbrev pub shows_of : Own → Shows
shows_of o = record { journal = o.journal; versions = o.versions }

-- the lists of n jobs after ticket t's job has shown something else, if it may have
abbrev pub marked_by : Bool → List Reads → ℕ → Shows → Shows → ℕ → List Reads
marked_by x ls n old new t = cond x (sweep (mark_reads old new t) t (n - t) ls) ls

-- a move of the job at index i stored in its block, the slot at s, with these lists of reads
abbrev pub stored_at : Block → ℕ → ℕ → Move → List Reads → Block
stored_at b i s m ls = record {
  start = b.start;
  count = b.count;
  jobs = b.jobs;
  states = set b.states i m.own.state;
  status = set b.status i m.own.status;
  journals = set b.journals i m.own.journal;
  versions = set b.versions i m.own.versions;
  reads = ls;
  checkpoints = set b.checkpoints s m.own.slot;
}

-- the block after ticket t's job has made this move
unfoldable pub placed : Block → ℕ → Move → Block
placed b t m =
    let i = t - 1 in
    stored_at b i (slot_at i (get_or b.reads i no_reads).size) m (marked_by m.marks (set b.reads i m.own.list) b.count (shows_of (own_of b i)) (shows_of m.own) t)

abbrev pub turned_by : Block → ℕ → Move → Turned
turned_by b t m = record { word = m.word; block = placed b t m }

-- the lengths of a block's arrays
pub record Long (b : Block) : Type 0 where
  pub start : length b.start ≡ CELLS
  pub states : length b.states ≡ 16
  pub status : length b.status ≡ 16
  pub journals : length b.journals ≡ 16
  pub versions : length b.versions ≡ 16
  pub reads : length b.reads ≡ 16
  pub checkpoints : length b.checkpoints ≡ 128

-- what back makes of the parts
pub record Goes (o : Own) (c : Checkpoint) (m : Move) : Type 0 where
  pub versions : versions_of m.own.versions ≡ withdrawn c.writes (versions_of o.versions)
  pub move : m ≡ went_back o c.state (record { entries = o.journal.entries; size = c.writes }) m.own.versions (record { reads = o.list.reads; size = c.listed; mark = 255 })

-- ---- a move of the parts is the plain move of the job in any block whose parts they are
pub record At (b : Block) (t : ℕ) (o : Own) : Type 0 where
  pub some : 0 < t
  pub inside : t ≤ b.count
  pub whole : Whole b
  pub long : Long b
  pub own : o ≡ own_of b (t - 1)

pub record Done (b : Block) (t : ℕ) (p : E.Moved Running) (m : Move) : Type 0 where
  pub did : Did b (t - 1) p (turned_by b t m)
  pub shown : m.marks ≡ true → Showing m.own.journal m.own.versions
  pub few : m.marks ≡ true → m.own.list.size ≤ 8

-- a rule stores the status 0, 1 or 2, or leaves it
pub record Moves (o : Own) (Q : Block → ℕ → Type 0) (plain : Block → ℕ → E.Moved Running) (m : Move) : Type 0 where
  pub status : (m.own.status ≤ 2) ⊎ (m.own.status ≡ o.status)
  pub on : (b : Block) (t : ℕ) → At b t o → Q b t → Done b t (plain b (t - 1)) m

-- a WRITE needs nothing of the block
pub record AtWrite (b : Block) (k : ℕ) : Type 0 where

-- what a job sees of all
abbrev pub around_of : Block → Around
around_of b = record { status = b.status; journals = b.journals; versions = b.versions }

pub record AtRead (seen : Around) (value t : ℕ) (next : State) (c : ℕ) (b : Block) (k : ℕ) : Type 0 where
  pub ticket : k ≡ t
  pub around : seen ≡ around_of b
  pub start : value ≡ get_or b.start c 0
  pub reading : Reading b (k - 1) next c

-- ---- the step that a job would take
-- an instruction reads only cells of the table
pub record InCells (done : Stepped) : Type 0 where
  pub low : (c : Cell) → done.act ≡ ReadAct c → c.0 < CELLS

-- i is the cell that it reads, if it reads one
pub record Asks (done : Stepped) (i : ℕ) : Type 0 where
  pub low : i < CELLS
  pub cell : (c : Cell) → done.act ≡ ReadAct c → i ≡ c.0

pub record AtStep (done : Stepped) (seen : Around) (value t : ℕ) (b : Block) (k : ℕ) : Type 0 where
  pub ticket : k ≡ t
  pub around : seen ≡ around_of b
  pub steps : StepsIn (code_at b (k - 1)) (get_or b.states (k - 1) no_state) done
  pub start : (c : Cell) → done.act ≡ ReadAct c → value ≡ get_or b.start c.0 0

pub record AtTurn (done : Stepped) (seen : Around) (value : ℕ) (c : Checkpoint) (t : ℕ) (b : Block) (k : ℕ) : Type 0 where
  pub step : AtStep done seen value t b k
  pub back : c ≡ get_or b.checkpoints (slot_at (k - 1) (get_or b.reads (k - 1) no_reads).mark) no_checkpoint

-- what the parts must be for the code to read them
pub record Ready (o : Own) (seen : Around) (t : ℕ) : Type 0 where
  pub some : 0 < t
  pub few : t ≤ 16
  pub showing : Showing o.journal o.versions
  pub list : o.list.size ≤ 8
  pub below : ShowingBelow seen.journals seen.versions (t - 1)

-- ---- a move that may mark
-- where a move marks, the lists and what the job shows are fit for it
pub record MayMark (m : Move) (o : Own) (ls : List Reads) (n i : ℕ) : Type 0 where
  pub count : m.marks ≡ true → n ≤ 16
  pub lists : m.marks ≡ true → ListsFit (set ls i m.own.list) n
  pub before : m.marks ≡ true → Shown (shows_of o)
  pub after : m.marks ≡ true → Shown (shows_of m.own)
