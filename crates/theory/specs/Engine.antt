-- Document 01, "One turn": the plain engine over any machine, any number of jobs and cells. Everything is executable.
-- The job at index k of a block has ticket k + 1; ticket 0 is the start table.
use Rattle.std.specs.Prelude.{Bool, true, false, cond, ◌&&◌, ◌||◌, List, [], ◌∷◌, ◌++◌, map, ℕ, zero, suc, ◌+◌, ◌-◌, eqb, leb, ltb, length, take, drop, get_or, Option, None, Some}
use Rattle.theory.specs.Word as W
use Rattle.theory.specs.Promise.{Act, nothing, read, write, stop, abandon, stuck, Machine}

-- ---- a block in work
-- a write of a value to a cell
pub record Entry : Type 0 where
  pub cell : ℕ
  pub value : ℕ

-- taken before a read is listed: the state, the journal's length and the number of listed reads
pub record Checkpoint (S : Type 0) : Type 0 where
  pub state : S
  pub writes : ℕ
  pub listed : ℕ

-- a listed read, with its checkpoint; the source is a ticket
pub record Read (S : Type 0) : Type 0 where
  pub cell : ℕ
  pub source : ℕ
  pub value : ℕ
  pub checkpoint : Checkpoint S

pub data Status : Type 0 where
  running ended final : Status

-- the mark is the earliest marked read, since only that counts; a public version is the number of its journal entry
pub record Job (S : Type 0) : Type 0 where
  pub state : S
  pub journal : List Entry
  pub versions : List ℕ
  pub reads : List (Read S)
  pub mark : Option ℕ
  pub status : Status

pub record Block (S : Type 0) : Type 0 where
  pub table : List ℕ
  pub jobs : List (Job S)

-- the sizes of the box
pub record Limits : Type 0 where
  pub most_jobs : ℕ
  pub cells : ℕ
  pub few : ℕ

abbrev pub no_entry : Entry
no_entry = record { cell = 0; value = 0 }

abbrev pub or_else : {A : Type 0} → Option A → Option A → Option A
or_else (Some a) o = Some a
or_else None o = o

abbrev pub next : Option ℕ → Option ℕ
next (Some k) = Some (suc k)
next None = None

-- ---- the journal
-- the number of the last entry for a cell
abbrev pub last_at : List Entry → ℕ → Option ℕ
last_at [] c = None
last_at (e ∷ es) c = or_else (next (last_at es c)) (cond (eqb e.cell c) (Some zero) None)

-- the value of the entry with a number
abbrev pub value_at : List Entry → Option ℕ → Option ℕ
value_at j (Some k) = Some (get_or j k no_entry).value
value_at j None = None

abbrev pub last_value : List Entry → ℕ → Option ℕ
last_value j c = value_at j (last_at j c)

abbrev pub writes? : List Entry → ℕ → Bool
writes? [] c = false
writes? (e ∷ es) c = eqb e.cell c || writes? es c

-- the numbers of the entries that are the last of their cell, where the first has number k
abbrev pub lasts_from : ℕ → List Entry → List ℕ
lasts_from k [] = []
lasts_from k (e ∷ es) = cond (writes? es e.cell) (lasts_from (suc k) es) (k ∷ lasts_from (suc k) es)

-- ---- public versions
-- the entry from which the versions vs of a journal show a cell
abbrev pub shown_at : List Entry → List ℕ → ℕ → Option ℕ
shown_at j [] c = None
shown_at j (v ∷ vs) c = cond (eqb (get_or j v no_entry).cell c) (Some v) (shown_at j vs c)

-- STOP makes public, for each cell in the journal, the last entry
abbrev pub published : List Entry → List ℕ
published j = lasts_from zero j

-- going back withdraws what came from the n-th entry on
abbrev pub withdrawn : ℕ → List ℕ → List ℕ
withdrawn n [] = []
withdrawn n (v ∷ vs) = cond (ltb v n) (v ∷ withdrawn n vs) (withdrawn n vs)

-- a version found, of the job at index k; or what stands lower
abbrev pub found : Option ℕ → ℕ → ℕ × ℕ → ℕ × ℕ
found (Some v) k lower = (suc k, v)
found None k lower = lower

-- the greatest ticket up to k with a version of a cell, and the value; failing that, ticket 0 and the start table's
unfoldable pub search : ℕ → (ℕ → Option ℕ) → ℕ → ℕ × ℕ
search start version zero = (zero, start)
search start version (suc k) = found (version k) k (search start version k)

-- ---- marks
-- where ticket t showed a cell from entry `before` and shows it from `after`: is a higher job's read of it, with this source, to be marked?
-- newly, or from another entry: sources t or lower; withdrawn: source t
abbrev pub struck : Option ℕ → Option ℕ → ℕ → ℕ → Bool
struck None None t source = false
struck None (Some b) t source = leb source t
struck (Some a) None t source = eqb source t
struck (Some a) (Some b) t source = cond (eqb a b) false (leb source t)

-- of two marks the earlier counts
abbrev pub earlier : Option ℕ → Option ℕ → Option ℕ
earlier None m = m
earlier (Some k) None = Some k
earlier (Some k) (Some m) = cond (ltb k m) (Some k) (Some m)

abbrev pub is_final : Status → Bool
is_final running = false
is_final ended = false
is_final final = true

module _ {S : Type 0} where
  unfoldable pub shown : Job S → ℕ → Option ℕ
  shown b c = shown_at b.journal b.versions c

  abbrev pub version : Job S → ℕ → Option ℕ
  version b c = value_at b.journal (shown b c)

  -- what a reader with the jobs at the indices 0 to k - 1 below it finds: the source ticket and the value
  abbrev pub find : (ℕ → ℕ) → (ℕ → Job S) → ℕ → ℕ → ℕ × ℕ
  find table st c k = search (table c) (λ j. version (st j) c) k

  -- the value of the job's own listed read of a cell
  abbrev pub listed_value : List (Read S) → ℕ → Option ℕ
  listed_value [] c = None
  listed_value (r ∷ rs) c = cond (eqb r.cell c) (Some r.value) (listed_value rs c)

  abbrev pub is_struck : (ℕ → Option ℕ) → (ℕ → Option ℕ) → ℕ → Read S → Bool
  is_struck before after t r = struck (before r.cell) (after r.cell) t r.source

  abbrev pub first_struck : (Read S → Bool) → List (Read S) → Option ℕ
  first_struck f [] = None
  first_struck f (r ∷ rs) = cond (f r) (Some zero) (next (first_struck f rs))

  -- a higher job after ticket t's versions changed
  abbrev pub mark_job : (ℕ → Option ℕ) → (ℕ → Option ℕ) → ℕ → Job S → Job S
  mark_job before after t b =
      record {
        state = b.state;
        journal = b.journal;
        versions = b.versions;
        reads = b.reads;
        mark = earlier (first_struck (is_struck before after t) b.reads) b.mark;
        status = b.status;
      }

  -- the job o at index i becomes b: lower jobs stay, and higher jobs are marked where i's versions changed
  abbrev pub changed : List (Job S) → ℕ → Job S → Job S → List (Job S)
  changed js i o b = take i js ++ (b ∷ map (mark_job (shown o) (shown b) (suc i)) (drop (suc i) js))

  -- are all jobs below index k final?
  abbrev pub all_final : (ℕ → Job S) → ℕ → Bool
  all_final st zero = true
  all_final st (suc k) = is_final (st k).status && all_final st k

  -- ---- a job's own moves
  abbrev pub fresh : S → Job S
  fresh s = record { state = s; journal = []; versions = []; reads = []; mark = None; status = running }

  -- 2. back: to the checkpoint, losing reads and journal past it, and the versions that came from lost entries
  abbrev pub go_back : Job S → Checkpoint S → Job S
  go_back b c =
      record {
        state = c.state;
        journal = take c.writes b.journal;
        versions = withdrawn c.writes b.versions;
        reads = take c.listed b.reads;
        mark = None;
        status = running;
      }

  -- 3. step: the state after the instruction; WRITE adds to the journal, and a READ from outside is listed
  abbrev pub step_to : Job S → S → Job S
  step_to b s = record { state = s; journal = b.journal; versions = b.versions; reads = b.reads; mark = b.mark; status = b.status }

  abbrev pub write_to : Job S → S → Entry → Job S
  write_to b s e = record { state = s; journal = b.journal ++ (e ∷ []); versions = b.versions; reads = b.reads; mark = b.mark; status = b.status }

  abbrev pub list_to : Job S → S → Read S → Job S
  list_to b s r = record { state = s; journal = b.journal; versions = b.versions; reads = b.reads ++ (r ∷ []); mark = b.mark; status = b.status }

  -- 4. end: STOP publishes, ABANDON withdraws all; the journal stays
  abbrev pub end_with : Job S → List ℕ → Job S
  end_with b vs = record { state = b.state; journal = b.journal; versions = vs; reads = b.reads; mark = b.mark; status = ended }

  -- 5. final
  abbrev pub settle : Job S → Job S
  settle b = record { state = b.state; journal = b.journal; versions = b.versions; reads = b.reads; mark = b.mark; status = final }

-- a job's move: the word, and the job after it
pub record Moved (S : Type 0) : Type 0 where
  pub word : W.Word
  pub job : Job S

module _ {S : Type 0} where
  abbrev pub moved : W.Word → Job S → Moved S
  moved w b = record { word = w; job = b }

  -- where the job stands, as a checkpoint
  abbrev pub here : Job S → Checkpoint S
  here b = record { state = b.state; writes = length b.journal; listed = length b.reads }

  abbrev pub checkpoint_at : Job S → ℕ → Checkpoint S
  checkpoint_at b m = get_or (map (λ r. r.checkpoint) b.reads) m (here b)

  -- the read that is listed, with its checkpoint
  abbrev pub listing : Job S → ℕ → ℕ × ℕ → Read S
  listing b c f = record { cell = c; source = f.0; value = f.1; checkpoint = here b }

module _ (few : ℕ) (M : Machine) (table : ℕ → ℕ) where
  open M use {S, act, given}

  -- READ: the own last entry; failing that the own listed read; failing that the version found, which is listed if there is room
  abbrev pub read_step : Job S → ℕ → Option ℕ → Option ℕ → ℕ × ℕ → Moved S
  read_step b c (Some v) o f = moved W.step (step_to b (given b.state v))
  read_step b c None (Some v) f = moved W.step (step_to b (given b.state v))
  read_step b c None None f = cond (ltb (length b.reads) few) (moved W.step (list_to b (given b.state f.1) (listing b c f))) (moved W.stuck b)

  -- one instruction of the job b at index i, or its end
  abbrev pub instructed : (ℕ → Job S) → ℕ → Job S → Act S → Moved S
  instructed st i b (nothing s) = moved W.step (step_to b s)
  instructed st i b (read c) = read_step b c (last_value b.journal c) (listed_value b.reads c) (find table st c i)
  instructed st i b (write c v s) = cond (ltb (length b.journal) few) (moved W.step (write_to b s (record { cell = c; value = v }))) (moved W.stuck b)
  instructed st i b stop = moved W.end (end_with b (published b.journal))
  instructed st i b abandon = moved W.end (end_with b [])
  instructed st i b stuck = moved W.stuck b

  -- document 01's rules, tried in order: idle; back; step or end; final; wait
  abbrev pub ruled : (ℕ → Job S) → ℕ → Job S → Status → Option ℕ → Moved S
  ruled st i b final m = moved W.idle b
  ruled st i b running (Some m) = moved W.back (go_back b (checkpoint_at b m))
  ruled st i b ended (Some m) = moved W.back (go_back b (checkpoint_at b m))
  ruled st i b running None = instructed st i b (act b.state)
  ruled st i b ended None = cond (all_final st i) (moved W.final (settle b)) (moved W.wait b)

  unfoldable pub move : (ℕ → Job S) → ℕ → Moved S
  move st i = ruled st i (st i) (st i).status (st i).mark

-- ---- the sizes, for refusal 20
abbrev pub all : {A : Type 0} → (A → Bool) → List A → Bool
all f [] = true
all f (a ∷ l) = f a && all f l

abbrev pub mark_fits : Option ℕ → ℕ → Bool
mark_fits None n = true
mark_fits (Some m) n = ltb m n

module _ (L : Limits) (M : Machine) where
  open M use {S, fits, nowhere}

  abbrev pub entry_fits : Entry → Bool
  entry_fits e = ltb e.cell L.cells

  -- the journal's length at the checkpoint after these reads, or now
  abbrev pub writes_after : List (Read S) → ℕ → ℕ
  writes_after [] n = n
  writes_after (r ∷ rs) n = r.checkpoint.writes

  -- the reads from the k-th on, of a job with n journal entries: a checkpoint is the job as it was before its read, so it names at most the k reads
  -- before it, and no more entries than the next one names. Two versions of one cell are no misfit: the first is shown. (DECISIONS.md says both readings)
  abbrev pub reads_fit : ℕ → ℕ → List (Read S) → Bool
  reads_fit n k [] = true
  reads_fit n k (r ∷ rs) =
      ltb r.cell L.cells && fits r.checkpoint.state && leb r.checkpoint.listed k && leb r.checkpoint.writes (writes_after rs n) && reads_fit n (suc k) rs

  unfoldable pub job_fits : Job S → Bool
  job_fits b =
      fits b.state && leb (length b.journal) L.few && all entry_fits b.journal && all (λ v. ltb v (length b.journal)) b.versions
      && leb (length b.reads) L.few && reads_fit (length b.journal) 0 b.reads && mark_fits b.mark (length b.reads)

  unfoldable pub block_fits : Block S → Bool
  block_fits b = leb (length b.jobs) L.most_jobs && all job_fits b.jobs

  -- ---- one turn
  abbrev pub nobody : Job S
  nobody = fresh nowhere

  abbrev pub job_at : Block S → ℕ → Job S
  job_at b k = get_or b.jobs k nobody

  abbrev pub cell_at : Block S → ℕ → ℕ
  cell_at b c = get_or b.table c 0

  pub record Turned : Type 0 where
    pub word : W.Word
    pub block : Block S

  -- a move's word says whether the block changes
  abbrev pub move_to : Block S → ℕ → W.Word → Job S → Turned
  move_to b i w j = record { word = w; block = cond (W.changes w) (record { table = b.table; jobs = changed b.jobs i (job_at b i) j }) b }

  abbrev pub move_at : Block S → ℕ → Moved S
  move_at b i = move L.few M (cell_at b) (job_at b) i

  -- ticket t: 14, then 20, then the rules
  unfoldable pub turn : Block S → ℕ → Turned
  turn b t =
      cond (eqb t 0 || ltb (length b.jobs) t) (record { word = W.bad_ticket; block = b })
      (cond (block_fits b) (move_to b (t - 1) (move_at b (t - 1)).word (move_at b (t - 1)).job) (record { word = W.stuck; block = b }))

  unfoldable pub turns : Block S → List ℕ → Block S
  turns b [] = b
  turns b (t ∷ ts) = turns (turn b t).block ts

  -- ---- the opening and the settled table
  abbrev pub opened : List ℕ → List S → Block S
  opened table starts = record { table = table; jobs = map fresh starts }

  -- f: the number of final jobs
  abbrev pub finals : List (Job S) → ℕ
  finals [] = 0
  finals (j ∷ js) = cond (is_final j.status) 1 0 + finals js

  -- a cell's settled value: that of its public version with the greatest ticket from 1 to f, failing that the start table's
  abbrev pub settled_cell : Block S → ℕ → ℕ
  settled_cell b c = (find (cell_at b) (job_at b) c (finals b.jobs)).1

  abbrev pub up_to : ℕ → List ℕ
  up_to zero = []
  up_to (suc n) = up_to n ++ (n ∷ [])

  unfoldable pub settled : Block S → List ℕ
  settled b = map (settled_cell b) (up_to L.cells)
