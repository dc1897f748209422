-- Small runs on a toy machine in which each rule of the engine matters, computed: all jobs become final and the settled table is the serial
-- run. With one of the rules changed, one of these runs settles another table, or is stuck.
use Rattle.std.specs.Prelude.{true, cond, List, [], ◌∷◌, ◌++◌, map, ℕ, suc, eqb, length, get_or, drop, replicate}
use Rattle.theory.specs.Promise.{Act, nothing, read, write, stop, abandon, Machine}
use Rattle.theory.specs.Engine.{Limits, turns, opened, finals, settled, up_to}
use Rattle.theory.specs.Serial.{serial}

-- ---- the toy machine
-- nothing; a READ, whose value is held; a WRITE of a number, or of what is held; ABANDON unless 0 is held; the next one only if 0 is held
pub data Do : Type 0 where
  pass quit unless : Do
  get copy : ℕ → Do
  put : ℕ → ℕ → Do

pub record Toy : Type 0 where
  pub code : List Do
  pub held : ℕ

abbrev on : List Do → ℕ → Toy
on c h = record { code = c; held = h }

-- past the last instruction stands STOP
abbrev asks : List Do → ℕ → Act Toy
asks [] h = stop
asks (pass ∷ c) h = nothing (on c h)
asks (quit ∷ c) h = cond (eqb h 0) (nothing (on c h)) abandon
asks (unless ∷ c) h = nothing (on (cond (eqb h 0) c (drop 1 c)) h)
asks (get x ∷ c) h = read x
asks (copy x ∷ c) h = write x h (on c h)
asks (put x v ∷ c) h = write x v (on c h)

abbrev pub toy : Machine
toy = record {
  S = Toy;
  act = λ s. asks s.code s.held;
  given = λ s v. on (drop 1 s.code) v;
  left = λ s. suc (length s.code);
  fits = λ s. true;
  nowhere = on [] 0;
}

abbrev small : Limits
small = record { most_jobs = 4; cells = 8; few = 4 }

-- ---- the runs
-- jobs on an all-zero table, and the tickets of their first turns
pub record Scenario : Type 0 where
  pub jobs : List (List Do)
  pub first : List ℕ

abbrev run : List (List Do) → List ℕ → Scenario
run js ts = record { jobs = js; first = ts }

abbrev times : ℕ → ℕ → List ℕ
times n t = replicate n t

abbrev starts : Scenario → List Toy
starts s = map (λ c. on c 0) s.jobs

-- the first turns, and then turns enough for every job in the order of tickets
abbrev tickets : Scenario → List ℕ
tickets s = s.first ++ (times 9 1 ++ (times 9 2 ++ times 9 3))

-- f, and the settled table
abbrev pub settles : Scenario → ℕ × List ℕ
settles s = let b = turns small toy (opened small toy (replicate 8 0) (starts s)) (tickets s) in (finals small toy b.jobs, settled small toy b)

-- all jobs, and their serial run
abbrev pub serves : Scenario → ℕ × List ℕ
serves s = (length s.jobs, map (serial toy (λ c. 0) (λ k. get_or (starts s) k (on [] 0)) (length s.jobs)) (up_to small toy 8))

abbrev pub scenarios : List Scenario
scenarios =
    -- job 2 reads the start table before job 1 ends: readers of an older version are marked
    run ((pass ∷ put 5 7 ∷ []) ∷ (pass ∷ get 5 ∷ copy 6 ∷ []) ∷ []) (times 4 2 ++ times 3 1)
    -- .. and is not final before job 1
    ∷ run ((pass ∷ put 5 7 ∷ []) ∷ (pass ∷ get 5 ∷ copy 6 ∷ []) ∷ []) (times 5 2)
    -- job 2 writes cell 1 only on the stale value, and job 3 has read that: back loses the entry and withdraws its version
    ∷ run ((pass ∷ put 5 7 ∷ []) ∷ (pass ∷ get 5 ∷ unless ∷ put 1 3 ∷ []) ∷ (pass ∷ get 1 ∷ copy 6 ∷ []) ∷ []) (times 5 2 ++ times 4 3 ++ times 3 1)
    -- job 2 writes cell 1 before its read: back keeps that entry
    ∷ run ((pass ∷ put 5 7 ∷ []) ∷ (put 1 3 ∷ get 5 ∷ copy 6 ∷ []) ∷ []) (times 4 2 ++ times 3 1)
    -- job 3 is marked at its second read by job 2, then at its first by job 1: the earlier counts
    ∷ run ((pass ∷ put 5 7 ∷ []) ∷ (pass ∷ put 4 2 ∷ []) ∷ (pass ∷ get 5 ∷ copy 1 ∷ get 4 ∷ copy 2 ∷ []) ∷ []) (times 6 3 ++ times 3 2 ++ times 3 1)
    -- two versions of cell 5: job 3 reads that of the greater ticket
    ∷ run ((pass ∷ put 5 1 ∷ []) ∷ (pass ∷ put 5 2 ∷ []) ∷ (pass ∷ get 5 ∷ copy 6 ∷ []) ∷ []) []
    -- document 01's first expected error: ABANDON withdraws what was public before, and marks job 3
    ∷ run ((pass ∷ put 5 7 ∷ []) ∷ (put 1 3 ∷ get 5 ∷ quit ∷ []) ∷ (pass ∷ get 1 ∷ copy 6 ∷ []) ∷ []) (times 4 2 ++ times 4 3 ++ times 3 1)
    ∷ []
