-- Demands 2 and 3 for the box: a paper that the checker accepts, on a start table of 256 cells, with any list of tickets after its opening.
-- They are the theory's theorems at the box's machine, whose promise the checker's answer gives.
use Rattle.std.specs.Prelude.{◌≡◌, ◌≢◌, Bool, false, not, cond, ℕ, suc, ◌+◌, ◌≤◌, ◌<◌, eqb, get_or, Some}
use Rattle.std.proofs.Math.Path.{refl, fun_ext}
use Rattle.std.proofs.Math.Bool.{true}
use mathlib.Core.List.{List, [], ◌∷◌, map}
use Rattle.std.proofs.Common.{arith, ne_eqb}
use Rattle.std.proofs.Math.Decide.{ℕ_discrete}
use Rattle.std.proofs.Math.ListN.{length, get_or-map}
use Rattle.std.proofs.lemmas.List.{length-map}
use Rattle.theory.specs.Word as W
use Rattle.theory.specs.Promise.{Passed}
use Rattle.theory.specs.Engine as E
use Rattle.theory.specs.Every.{Every}
use Rattle.theory.specs.Serial.{serial}
use Rattle.theory.specs.Histories.{final_turns, occurs}
use Rattle.theory.proofs.SettledIsSerial as S
use Rattle.theory.proofs.NeverStuck as N
use Rattle.theory.proofs.FinalWithin as F
use Rattle.theory.proofs.Follows as O
use Rattle.theory.specs.Follows.{run_on}
use Rattle.machine.specs.Limits.{FEW, JOBS, CELLS}
use Rattle.machine.specs.Machine.{Running, starting}
use Rattle.machine.specs.Paper.{Answer, jobs, refused, paper_answer}
use Rattle.machine.specs.declared.instruction.Instruction.{Instruction}
use Rattle.promise.specs.Papers.{accepted_jobs}
use Rattle.rules.specs.Box.{box, box_checked, box_promise, limits}
use Rattle.turns.specs.SerialRun.{cells_of}
use Rattle.turns.specs.Open.{nothing_open, opened_by, open_block}

every_from : (P : Running → Type 0) (js : List (List Instruction)) → ((k : ℕ) → k < length js → P (starting (get_or js k []))) → Every P (map starting js)
every_from P [] h = tt
every_from P (j ∷ js) h = (h 0 (omega arith), every_from P js (λ k l. h (suc k) (omega arith)))

-- the block of a refused opening
open_wrong : (start paper : List ℕ) → (length start ≡ CELLS → ⊥) → open_block start paper ≡ nothing_open
unfolding open_block
open_wrong start paper l = rw (ne_eqb (length start) CELLS l) refl

open_refused : (start paper : List ℕ) (n f p : ℕ) → length start ≡ CELLS → paper_answer paper ≡ refused n f p → open_block start paper ≡ nothing_open
unfolding open_block opened_by
open_refused start paper n f p l e = rw (l, e) refl

module _ (start paper : List ℕ) (js : List (List Instruction)) (whole : length start ≡ CELLS) (accepted : paper_answer paper ≡ jobs js) where
  -- the block in work after an opening and these tickets
  abbrev pub after : List ℕ → E.Block Running
  after ts = E.turns limits box (open_block start paper) ts

  opens : open_block start paper ≡ E.opened limits box start (map starting js)
  unfolding open_block opened_by
  opens = rw (whole, accepted) refl

  few : length (map starting js) ≤ JOBS
  few = omega (arith, length-map js starting, (accepted_jobs paper js accepted).0)

  passed : Every (Passed box box_checked FEW) (map starting js)
  passed = every_from (Passed box box_checked FEW) js (accepted_jobs paper js accepted).1

  starts : (k : ℕ) → get_or (map starting js) k (starting []) ≡ starting (get_or js k [])
  starts k = get_or-map starting js k []

  -- demand 2: the settled table is the serial run of the first f jobs
  pub settled_is_serial : (ts : List ℕ) →
      E.settled limits box (after ts) ≡ map (serial box (cells_of start) (λ k. starting (get_or js k [])) (E.finals limits box (after ts).jobs)) (E.up_to limits box CELLS)
  settled_is_serial ts = rw (opens, ← fun_ext starts) (S.settled_is_serial limits box box_promise start (map starting js) ts)

  -- .. and f is the number of turns whose word was final
  pub f_counts_finals : (ts : List ℕ) → E.finals limits box (after ts).jobs ≡ final_turns limits box (open_block start paper) ts
  f_counts_finals ts = rw opens (S.f_counts_finals limits box start (map starting js) ts)

  -- demand 3: no turn is stuck
  pub checked_never_stuck : (ts : List ℕ) (t : ℕ) → (E.turn limits box (after ts) t).word ≢ W.stuck
  checked_never_stuck ts t = rw opens (N.checked_never_stuck limits box box_promise box_checked start (map starting js) few passed ts t)

  -- demand 3: a job of L instructions whose predecessors are final is final after L + 1 further turns of its own
  pub final_within : (ts more : List ℕ) (i : ℕ) → i < length js → ((k : ℕ) → k < i → (E.job_at limits box (after ts) k).status ≡ E.final)
      → length (get_or js i []) + 1 ≤ occurs (suc i) more → (E.job_at limits box (E.turns limits box (after ts) more) i).status ≡ E.final
  final_within ts more i l lower turns =
      rw opens (F.final_within limits box box_promise box_checked start (map starting js) few passed ts more i (omega (arith, length-map js starting)) (rw opens at lower)
      (rw (starts i) (omega arith)))

  -- document 01's "Follows": the place, stack and journal of the job at index i are those of a run of some n instructions from its start on the values
  -- in its list of reads, however often it went back; marked or not
  pub follows : (ts : List ℕ) (i : ℕ) →
      let j = E.job_at limits box (after ts) i in
      (n : ℕ) × (run_on box j.reads (starting (get_or js i [])) n ≡ Some (record { state = j.state; journal = j.journal }))
  follows ts i = rw (opens, ← starts i) (O.follows limits box start (map starting js) ts i)

  -- the block fits after any turns
  pub always_fits : (ts : List ℕ) → E.block_fits limits box (after ts) ≡ true
  always_fits ts = rw opens (N.reached_fits limits box box_promise box_checked start (map starting js) few passed ts)

-- a refused opening yields a block that fits too, and no opening yields a final job
module _ (start paper : List ℕ) where
  none_open : E.block_fits limits box nothing_open ≡ true
  unfolding nothing_open E.block_fits
  none_open = refl

  pub open_fits : E.block_fits limits box (open_block start paper) ≡ true
  unfolding E.turns
  open_fits = sized (ℕ_discrete (length start) CELLS)
    where
      answered : (a : Answer) → paper_answer paper ≡ a → length start ≡ CELLS → E.block_fits limits box (open_block start paper) ≡ true
      answered (jobs js) e l = always_fits start paper js l e []
      answered (refused n f p) e l = rw (open_refused start paper n f p l e) none_open

      sized : Dec (length start ≡ CELLS) → E.block_fits limits box (open_block start paper) ≡ true
      sized (yes l) = answered (paper_answer paper) refl l
      sized (no l) = rw (open_wrong start paper l) none_open

  fresh_finals : (ss : List Running) → E.finals limits box (map E.fresh ss) ≡ 0
  fresh_finals [] = refl
  fresh_finals (s ∷ ss) = omega (arith, fresh_finals ss)

  pub open_finals : E.finals limits box (open_block start paper).jobs ≡ 0
  unfolding open_block opened_by nothing_open
  open_finals = sized (eqb (length start) CELLS)
    where
      answered : (a : Answer) → E.finals limits box (opened_by start a).jobs ≡ 0
      answered (jobs js) = fresh_finals (map starting js)
      answered (refused n f p) = refl

      sized : (t : Bool) → E.finals limits box (cond (not t) nothing_open (opened_by start (paper_answer paper))).jobs ≡ 0
      sized true = answered (paper_answer paper)
      sized false = refl
