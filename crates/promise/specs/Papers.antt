-- A paper that is accepted holds at most as many jobs as are allowed, and each of them passed: what the engine asks of a block.
use Rattle.std.specs.Prelude.{◌≡◌, refl, List, [], ◌∷◌, ℕ, zero, suc, ◌≤◌, ◌<◌, length, get_or}
use Rattle.std.proofs.Common.{arith}
use Rattle.theory.specs.Promise.{Passed}
use Rattle.theory.specs.Every.{Every, every_at}
use Rattle.machine.specs.Limits.{FEW, JOBS}
use Rattle.machine.specs.Machine.{starting}
use Rattle.machine.specs.Verdict.{Finding, sound, fault, job_verdict}
use Rattle.machine.specs.Passing.{both_sound}
use Rattle.machine.specs.Paper.{job_of, later, frame_of, field_of, Answer, jobs, refused, with, on_sound, fields, paper_answer}
use Rattle.machine.specs.Framed.{framed}
use Rattle.machine.specs.declared.instruction.Instruction.{Instruction}
use Rattle.promise.specs.Keeps.{box, box_checked, checked_job}

abbrev Passes : List Instruction → Type 0
Passes is = job_verdict is ≡ sound

no_jobs : {n f p : ℕ} {js : List (List Instruction)} → refused n f p ≡ jobs js → ⊥
no_jobs e = let z : ◌≡◌ {A = ℕ} 0 1 = cc in omega arith

pub accepted_fields : (more f : ℕ) (bs : List ℕ) (js : List (List Instruction)) → fields more f bs ≡ jobs js → Every Passes js × (length js ≤ more)
unfolding fields field_of
accepted_fields zero f [] js e = let q : [] ≡ js = cc in rw (← q) (tt, omega arith)
accepted_fields zero f (b ∷ bs) js e = go (field_of 0 (b ∷ bs)) refl e
  where
    go : (x : Finding) → field_of 0 (b ∷ bs) ≡ x → on_sound f x (jobs []) ≡ jobs js → Every Passes js × (length js ≤ 0)
    go (fault n p) q e = absurd (no_jobs e)
    go sound q e = absurd (let w = (framed 0 (b ∷ bs) (both_sound (frame_of 0 (b ∷ bs)) (job_verdict (job_of (b ∷ bs))) q).0).allowed in omega arith)
accepted_fields (suc more) f [] js e = let q : [] ≡ js = cc in rw (← q) (tt, omega arith)
accepted_fields (suc more) f (b ∷ bs) js e =
    go (field_of (suc more) (b ∷ bs)) refl (fields more (suc f) (later (b ∷ bs))) (accepted_fields more (suc f) (later (b ∷ bs))) e
  where
    j : List Instruction
    j = job_of (b ∷ bs)

    go : (x : Finding) → field_of (suc more) (b ∷ bs) ≡ x → (a : Answer) → ((js : List (List Instruction)) → a ≡ jobs js → Every Passes js × (length js ≤ more))
        → on_sound f x (with j a) ≡ jobs js → Every Passes js × (length js ≤ suc more)
    go (fault n p) q a ih e = absurd (no_jobs e)
    go sound q (refused n g p) ih e = absurd (no_jobs e)
    go sound q (jobs js') ih e =
        let w : j ∷ js' ≡ js = cc in
        let h = ih js' refl in
        rw (← w) (((both_sound (frame_of (suc more) (b ∷ bs)) (job_verdict j) q).1, h.0), omega (arith, h.1))

-- the jobs of an accepted paper are few, and each starts as the engine asks
pub accepted_jobs : (bs : List ℕ) (js : List (List Instruction)) → paper_answer bs ≡ jobs js
    → (length js ≤ JOBS) × ((k : ℕ) → k < length js → Passed box box_checked FEW (starting (get_or js k [])))
accepted_jobs bs js e =
    let w = accepted_fields JOBS 1 bs js e in
    (w.1, λ k l. checked_job (get_or js k []) (every_at Passes js k [] l w.0))
