-- The machine keeps its promise, and a job that passed is a checked one. A state is as good as its place: the stack has that place's height,
-- so what the instruction needs is there, and what it leads to is such a state again.
use Rattle.std.specs.Prelude.{◌≡◌, ◌≢◌, Bool, true, false, not, cond, ◌&&◌, ◌||◌, List, eqb, leb}
use Rattle.std.proofs.Math.Path.{refl, sym}
use Rattle.std.proofs.Common.{ap, ◌∙◌}
use Prim.Native.Nat.{ℕ, zero, suc, ◌+◌, ◌-◌, ◌≤◌, ◌<◌}
use native.Mathlib.Omega.{arith}
use borrow.Author.Tests.{eqb-true, eq-eqb, ne_eqb, le-leb, lt-ltb, ltb-true}
use Rattle.std.proofs.Math.Dec.{ltb}
use Rattle.std.proofs.Math.ListN.{length}
use Rattle.theory.specs.Promise.{Act, nothing, read, write, stop, abandon, stuck, Machine, Promise, Checked, Passed}
use Rattle.theory.specs.Run.{Run, begin, by_nothing, by_read, by_write, run_keeps, RunsWell, runs_well}
use Rattle.machine.specs.Limits.{LONGEST, ROOM, FEW, CELLS}
use Rattle.machine.specs.Instruction.{STOP, ABANDON, READ, WRITE, JUMP, JUMPZERO, known, leads_on, jumps, need, after}
use Rattle.machine.specs.Machine.{State, cell_of, top, next, stack_after, place_after, moved, placed, suffices, ready, asked, act, Running, current, in_job, starting, formed, sizes, machine}
use Rattle.theory.proofs.ReadSizes.{both}
use Rattle.machine.specs.Able.{Ready, ready_all, jump_place}
use Rattle.machine.specs.Verdict.{sound, at, count, verdict_of, job_verdict}
use Rattle.machine.specs.Passing.{sized}
use Rattle.machine.specs.declared.instruction.Instruction.{Instruction}
use Rattle.promise.specs.Tables.{stack_length}
use Rattle.promise.specs.Heights.{Sound, place_height, passed_sound}

-- where control goes: by the jump, on, or nowhere
data Way (i : Instruction) (p : ℕ) : ℕ → Type 0 where
  by_jump : jumps i ≡ true → Way i p i.operand
  by_next : eqb i.code JUMP ≡ false → Way i p (suc p)

abbrev Ends : Instruction → Bool
Ends i = eqb i.code STOP || eqb i.code ABANDON

way : (i : Instruction) (s : State) → Ends i ≡ false → Way i s.place (place_after i s)
unfolding place_after jumps
way i s no_end = rw no_end (go (eqb i.code JUMP) refl (eqb i.code JUMPZERO) refl (eqb (top s.stack) 0))
  where
    go : (a : Bool) → eqb i.code JUMP ≡ a → (b : Bool) → eqb i.code JUMPZERO ≡ b → (d : Bool) → Way i s.place (cond (a || (b && d)) i.operand (suc s.place))
    go true e b f d = by_jump (rw e refl)
    go false e true f true = by_jump (rw (e, f) refl)
    go false e true f false = by_next e
    go false e false f d = by_next e

is_known : (i : Instruction) → i.code ≤ 13 → known i ≡ true
unfolding known
is_known i l = le-leb _ _ l

module _ (longest room : ℕ) where
  abbrev ready_in : Running → Bool
  ready_in j = ready room (length j.code) (current j) j.state

  abbrev Able : Running → Type 0
  Able j = Ready room (length j.code) (current j) j.state

  abbrev moved_in : Running → ℕ → Running
  moved_in j v = record { code = j.code; state = moved (current j) v j.state }

  -- what an act tells of its state
  data Did (j : Running) : Act Running → Type 0 where
    did_stop : Able j → Did j stop
    did_abandon : Able j → Did j abandon
    did_read : Able j → (current j).code ≡ READ → Did j (read (cell_of (top j.state.stack)))
    did_write : Able j → (current j).code ≡ WRITE → Did j (write (cell_of (top j.state.stack)) (next j.state.stack) (moved_in j 0))
    did_nothing : Able j → Ends (current j) ≡ false → Did j (nothing (moved_in j 0))
    did_stuck : ready_in j ≡ false → Did j stuck

  did : (j : Running) → Did j ((machine longest room).act j)
  unfolding act asked
  did j = go (ready_in j) refl (eqb c STOP) refl (eqb c ABANDON) refl (eqb c READ) refl (eqb c WRITE) refl
    where
      c : ℕ
      c = (current j).code

      s : State
      s = j.state

      able : ready_in j ≡ true → Able j
      able = ready_all room (length j.code) (current j) s

      go : (r : Bool) → ready_in j ≡ r → (a : Bool) → eqb c STOP ≡ a → (b : Bool) → eqb c ABANDON ≡ b → (d : Bool) → eqb c READ ≡ d → (w : Bool) → eqb c WRITE ≡ w
          → Did j (in_job j.code (cond r (cond a stop (cond b abandon (cond d (read (cell_of (top s.stack)))
          (cond w (write (cell_of (top s.stack)) (next s.stack) (moved (current j) 0 s)) (nothing (moved (current j) 0 s)))))) stuck))
      go false e a ea b eb d ed w ew = did_stuck e
      go true e true ea b eb d ed w ew = did_stop (able e)
      go true e false ea true eb d ed w ew = did_abandon (able e)
      go true e false ea false eb true ed w ew = did_read (able e) (eqb-true _ _ ed)
      go true e false ea false eb false ed true ew = did_write (able e) (eqb-true _ _ ew)
      go true e false ea false eb false ed false ew = did_nothing (able e) (rw (ea, eb) refl)

  told : (j : Running) (a : Act Running) → (machine longest room).act j ≡ a → Did j a
  told j a e = rw e at (did j)

  goes : (i : Instruction) (c : ℕ) → i.code ≡ c → (c ≡ 0 → ⊥) → (c ≡ 1 → ⊥) → Ends i ≡ false
  goes i c e n m = rw (e, ne_eqb c 0 n, ne_eqb c 1 m) refl

  reading : (j : Running) → (current j).code ≡ READ → Ends (current j) ≡ false
  reading j e = goes (current j) READ e (λ q. omega arith) (λ q. omega arith)

  writing : (j : Running) → (current j).code ≡ WRITE → Ends (current j) ≡ false
  writing j e = goes (current j) WRITE e (λ q. omega arith) (λ q. omega arith)

  -- each instruction moves to a later place
  moves_later : (j : Running) (v : ℕ) → Able j → Ends (current j) ≡ false → j.state.place < (moved_in j v).state.place
  unfolding moved
  moves_later j v r e = go (way (current j) j.state e)
    where
      go : {q : ℕ} → Way (current j) j.state.place q → j.state.place < q
      go (by_jump w) = (jump_place (length j.code) j.state.place (current j) r.operand w).0
      go (by_next w) = omega arith

  falls : (j : Running) (v : ℕ) → Able j → Ends (current j) ≡ false → (machine longest room).left (moved_in j v) < (machine longest room).left j
  falls j v r e = omega (arith, moves_later j v r e, r.inside)

  -- .. and keeps the job's sizes
  keeps_sizes : (j : Running) (v : ℕ) → Able j → Ends (current j) ≡ false → sizes longest room j ≡ true → sizes longest room (moved_in j v) ≡ true
  unfolding sizes moved leads_on
  keeps_sizes j v r no_end f =
      let a = both (leb n longest && formed j.code n n && ltb j.state.place n) (leb (length j.state.stack) room) f in
      let b = both (leb n longest && formed j.code n n) (ltb j.state.place n) a.0 in
      rw (b.0, lt-ltb _ n (inside (way (current j) j.state no_end)), le-leb _ room high) refl
    where
      n : ℕ
      n = length j.code

      high : length (stack_after (current j) v j.state.stack) ≤ room
      high = rw (stack_length (current j) v j.state.stack (is_known (current j) r.code) r.enough) r.room_after

      on : eqb (current j).code JUMP ≡ false → ltb (suc j.state.place) n ≡ true
      on e = rw (no_end, e) at r.on

      inside : {q : ℕ} → Way (current j) j.state.place q → q < n
      inside (by_jump w) = (jump_place n j.state.place (current j) r.operand w).1
      inside (by_next w) = ltb-true _ _ (on w)

  pub promise : Promise CELLS (machine longest room)
  promise = record {
    after_nothing = λ j t e. n j (told j _ e);
    after_read = λ j c v e. r j v (told j _ e);
    after_write = λ j t c v e. w j (told j _ e);
    fits_nothing = λ j t f e. fn j f (told j _ e);
    fits_read = λ j c v f e. fr j v f (told j _ e);
    fits_write = λ j t c v f e. fw j f (told j _ e);
    cell_read = λ j c e. cr j (told j _ e);
    cell_write = λ j t c v e. cw j (told j _ e);
  }
    where
      n : (j : Running) {t : Running} → Did j (nothing t) → (machine longest room).left t < (machine longest room).left j
      n j (did_nothing a e) = falls j 0 a e

      r : (j : Running) (v : ℕ) {c : ℕ} → Did j (read c) → (machine longest room).left (moved_in j v) < (machine longest room).left j
      r j v (did_read a e) = falls j v a (reading j e)

      w : (j : Running) {t : Running} {c v : ℕ} → Did j (write c v t) → (machine longest room).left t < (machine longest room).left j
      w j (did_write a e) = falls j 0 a (writing j e)

      fn : (j : Running) {t : Running} → sizes longest room j ≡ true → Did j (nothing t) → sizes longest room t ≡ true
      fn j f (did_nothing a e) = keeps_sizes j 0 a e f

      fr : (j : Running) (v : ℕ) {c : ℕ} → sizes longest room j ≡ true → Did j (read c) → sizes longest room (moved_in j v) ≡ true
      fr j v f (did_read a e) = keeps_sizes j v a (reading j e) f

      fw : (j : Running) {t : Running} {c v : ℕ} → sizes longest room j ≡ true → Did j (write c v t) → sizes longest room t ≡ true
      fw j f (did_write a e) = keeps_sizes j 0 a (writing j e) f

      cr : (j : Running) {c : ℕ} → Did j (read c) → c < CELLS
      cr j (did_read a e) = omega arith

      cw : (j : Running) {t : Running} {c v : ℕ} → Did j (write c v t) → c < CELLS
      cw j (did_write a e) = omega arith

-- ---- how many READ and WRITE are still ahead
pub count_here : (is : List Instruction) (c p : ℕ) → (at is p).code ≡ c → count is c p < count is c (suc p)
unfolding count
count_here is c p e = rw (eq-eqb _ _ e) (omega arith)

count_add : (is : List Instruction) (c p d : ℕ) → count is c p ≤ count is c (p + d)
unfolding count
count_add is c p zero = let e : p + 0 ≡ p = omega arith in rw e (omega arith)
count_add is c p (suc d) = let e : p + suc d ≡ suc (p + d) = omega arith in rw e (omega (arith, count_add is c p d))

pub count_le : (is : List Instruction) (c p q : ℕ) → p ≤ q → count is c p ≤ count is c q
count_le is c p q l = let e : p + (q - p) ≡ q = omega arith in rw e at (count_add is c p (q - p))

abbrev pub ahead : ℕ → Running → ℕ
ahead c j = count j.code c (length j.code) - count j.code c j.state.place

module _ (longest room few : ℕ) where
  -- a state of a job that passed
  pub record Ok (j : Running) : Type 0 where
    pub short : length j.code ≤ longest
    pub heights : Sound (place_height longest j.code) room few j.code
    pub inside : j.state.place < length j.code
    pub high : length j.state.stack ≡ place_height longest j.code j.state.place

  ok_ready : (j : Running) → Ok j → ready room (length j.code) (current j) j.state ≡ true
  unfolding ready placed suffices
  ok_ready j k =
      rw (
        lt-ltb _ _ k.inside,
        K.codes p k.inside,
        K.operands p k.inside,
        k.high,
        le-leb _ _ (K.within p k.inside),
        le-leb _ _ (K.enough p k.inside),
        le-leb _ _ (K.roomy p k.inside),
      ) (go (leads_on (current j)) refl)
    where
      p : ℕ
      p = j.state.place

      K : Sound (place_height longest j.code) room few j.code
      K = k.heights

      go : (t : Bool) → leads_on (current j) ≡ t → true && (not t || ltb (suc p) (length j.code)) && true ≡ true
      go false e = refl
      go true e = rw (lt-ltb _ _ (K.on p k.inside e).0) refl

  ok_sizes : (j : Running) → Ok j → sizes longest room j ≡ true
  unfolding sizes formed
  ok_sizes j k = rw (le-leb _ _ k.short, all (length j.code) (omega arith), lt-ltb _ _ k.inside, le-leb _ room high) refl
    where
      high : length j.state.stack ≤ room
      high = rw k.high (k.heights.within j.state.place k.inside)

      all : (p : ℕ) → p ≤ length j.code → formed j.code (length j.code) p ≡ true
      all zero l = refl
      all (suc p) l = rw (k.heights.codes p l, k.heights.operands p l) (all p (omega arith))

  able : (j : Running) → Ok j → Ready room (length j.code) (current j) j.state
  able j k = ready_all room (length j.code) (current j) j.state (ok_ready j k)

  moves_well : (j : Running) (v : ℕ) → Ok j → Ends (current j) ≡ false → Ok (moved_in longest room j v)
  unfolding moved leads_on
  moves_well j v k no_end = go (way (current j) j.state no_end)
    where
      p : ℕ
      p = j.state.place

      K : Sound (place_height longest j.code) room few j.code
      K = k.heights

      long : length (stack_after (current j) v j.state.stack) ≡ after (current j) (place_height longest j.code p)
      long =
          stack_length (current j) v j.state.stack (K.codes p k.inside) (rw k.high (K.enough p k.inside))
          ∙ ap (after (current j)) k.high

      on : eqb (current j).code JUMP ≡ false → not (eqb (current j).code STOP || eqb (current j).code ABANDON || eqb (current j).code JUMP) ≡ true
      on e = rw (no_end, e) refl

      go : {q : ℕ} → Way (current j) p q → Ok (record { code = j.code; state = record { place = q; stack = stack_after (current j) v j.state.stack } })
      go (by_jump e) = let w = K.jump p k.inside e in record { short = k.short; heights = K; inside = w.1; high = long ∙ sym w.2 }
      go (by_next e) = let w = K.on p k.inside (on e) in record { short = k.short; heights = K; inside = w.0; high = long ∙ sym w.1 }

  kept : (j : Running) (v c : ℕ) → Ok j → Ends (current j) ≡ false → ahead c (moved_in longest room j v) ≤ ahead c j
  kept j v c k e = omega (arith, count_le j.code c j.state.place (moved_in longest room j v).state.place (omega (arith, moves_later longest room j v (able j k) e)))

  used : (j : Running) (v c : ℕ) → Ok j → Ends (current j) ≡ false → (current j).code ≡ c → ahead c (moved_in longest room j v) < ahead c j
  used j v c k e q =
      omega (
        arith,
        count_here j.code c j.state.place q,
        count_le j.code c (suc j.state.place) (moved_in longest room j v).state.place (moves_later longest room j v (able j k) e),
        count_le j.code c (suc j.state.place) (length j.code) k.inside,
      )

  pub checked : Checked (machine longest room)
  checked = record {
    Ok = Ok;
    reads_left = ahead READ;
    writes_left = ahead WRITE;
    ok_fits = ok_sizes;
    not_stuck = λ j k e. not_stuck j k (told longest room j _ e);
    some_left = λ j k. omega (arith, k.inside);
    ok_nothing = λ j t k e. on_nothing j k (told longest room j _ e);
    ok_read = λ j c v k e. on_read j v k (told longest room j _ e);
    ok_write = λ j t c v k e. on_write j k (told longest room j _ e);
  }
    where
      not_stuck : (j : Running) → Ok j → Did longest room j stuck → ⊥
      not_stuck j k (did_stuck e) = let z : true ≡ false = sym (ok_ready j k) ∙ e in let y : ◌≡◌ {A = ℕ} 0 1 = cc in omega arith

      on_nothing : (j : Running) {t : Running} → Ok j → Did longest room j (nothing t) → Ok t × (ahead READ t ≤ ahead READ j) × (ahead WRITE t ≤ ahead WRITE j)
      on_nothing j k (did_nothing r e) = (moves_well j 0 k e, kept j 0 READ k e, kept j 0 WRITE k e)

      on_read : (j : Running) (v : ℕ) {c : ℕ} → Ok j → Did longest room j (read c) → Ok (moved_in longest room j v) × (ahead READ (moved_in longest room j v) < ahead READ j) × (ahead WRITE (moved_in longest room j v) ≤ ahead WRITE j)
      on_read j v k (did_read r q) = let e = reading longest room j q in (moves_well j v k e, used j v READ k e q, kept j v WRITE k e)

      on_write : (j : Running) {t : Running} {c v : ℕ} → Ok j → Did longest room j (write c v t) → Ok t × (ahead READ t ≤ ahead READ j) × (ahead WRITE t < ahead WRITE j)
      on_write j k (did_write r q) = let e = writing longest room j q in (moves_well j 0 k e, kept j 0 READ k e, used j 0 WRITE k e q)

  -- no job, checked or not, begins with a READ: its stack is empty
  not_read_first : (is : List Instruction) (c : ℕ) → (machine longest room).act (starting is) ≢ read c
  unfolding need
  not_read_first is c e = go (told longest room (starting is) _ e)
    where
      one : (i : Instruction) → i.code ≡ READ → need i ≤ 0 → ⊥
      one i q n = let m = rw q at n in omega arith

      go : {c : ℕ} → Did longest room (starting is) (read c) → ⊥
      go (did_read r q) = one (current (starting is)) q r.enough

  -- a job that passes, over any limits, starts as the engine asks
  pub passes : (is : List Instruction) → verdict_of longest room few is ≡ sound → Passed (machine longest room) checked few (starting is)
  unfolding checked
  passes is e =
      let h = passed_sound longest room few is e in
      record {
        ok = record { short = (sized longest room few is e).1; heights = h; inside = (sized longest room few is e).0; high = sym h.first };
        few_reads = omega (arith, h.few_reads);
        few_writes = omega (arith, h.few_writes);
        not_read_first = not_read_first is;
      }

  same_code : {is : List Instruction} {n r w : ℕ} {j : Running} → Run (machine longest room) (starting is) n r w j → j.code ≡ is
  same_code begin = refl
  same_code (by_nothing {s = s} p e) = go (told longest room s _ e) (same_code p)
    where
      go : {is : List Instruction} {s t : Running} → Did longest room s (nothing t) → s.code ≡ is → t.code ≡ is
      go (did_nothing r q) h = h
  same_code (by_read v p e) = same_code p
  same_code (by_write {s = s} p e) = go (told longest room s _ e) (same_code p)
    where
      go : {is : List Instruction} {s t : Running} {c v : ℕ} → Did longest room s (write c v t) → s.code ≡ is → t.code ≡ is
      go (did_write r q) h = h

  -- the height of the stack is a function of the place, whatever the reads were given
  pub height_by_place : (is : List Instruction) → verdict_of longest room few is ≡ sound → {n r w : ℕ} {j : Running} → Run (machine longest room) (starting is) n r w j
      → length j.state.stack ≡ place_height longest is j.state.place
  unfolding checked
  height_by_place is e {j = j} run =
      rw (← same_code run) (run_keeps (machine longest room) CELLS (promise longest room) checked (passes is e).ok run).ok.high

-- with document 01's limits
abbrev pub box : Machine
box = machine LONGEST ROOM

abbrev pub box_checked : Checked box
box_checked = checked LONGEST ROOM FEW

pub box_promise : Promise CELLS box
box_promise = promise LONGEST ROOM

pub checked_job : (is : List Instruction) → job_verdict is ≡ sound → Passed box box_checked FEW (starting is)
checked_job is e = passes LONGEST ROOM FEW is e

-- .. so, whatever values its reads are given, its runs are never stuck, end within its instructions, and read and write at most 8 times
pub job_runs_well : (is : List Instruction) → job_verdict is ≡ sound → {n r w : ℕ} {j : Running} → Run box (starting is) n r w j
    → RunsWell box CELLS box_promise box_checked FEW (starting is) n r w j
job_runs_well is e run = runs_well box CELLS box_promise box_checked FEW (starting is) (checked_job is e) run
