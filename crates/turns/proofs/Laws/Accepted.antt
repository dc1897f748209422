-- An accepted paper: the checker's answer stands for the list of its first jobs,
-- so that list is the plain answer's, and its jobs are few and passed.
use mathlib.Core.Path.{◌≡◌, refl, ap, sym, fun_ext}
use Rattle.std.specs.Prelude.{Ok}
use mathlib.Core.List.{List, [], map}
use Prim.Native.Nat.{ℕ, ◌≤◌, ◌<◌}
use native.Mathlib.Omega.{arith}
use lib.ListN.{length, get_or, take, length-map, get_or-map}
use Rattle.theory.specs.Serial.{serial}
use Rattle.machine.specs.Machine.{Running, starting}
use Rattle.machine.specs.Paper.{paper_answer}
use Rattle.machine.specs.View.{code_of, no_job, Answers}
use Rattle.machine.specs.declared.instruction.Instruction.{Instruction}
use Rattle.machine.specs.declared.paper.Jobs.{Jobs}
use Rattle.promise.specs.Papers.{accepted_jobs}
use Rattle.machine.specs.declared.job.Job.{Job}
use Rattle.rules.specs.Box.{box}
use Rattle.turns.specs.Alone.{starts}
use Rattle.rules.specs.Program.{first_jobs}
use Rattle.rules.proofs.Laws.Program.{first_long, first_job, front_jobs, front_pass}
use Rattle.rules.specs.Steps.{AllPass}

abbrev pub jobs_of : Jobs → List (List Instruction)
jobs_of js = first_jobs js.count js.jobs

pub jobs_long : (js : Jobs) → length (jobs_of js) ≡ js.count
jobs_long js = first_long js.count js.jobs

pub job_is_lem : (js : Jobs) (k : ℕ) → k < js.count → get_or (jobs_of js) k [] ≡ code_of (get_or js.jobs k no_job)
job_is_lem js = first_job js.count js.jobs

-- what the code of all the jobs is as a list
pub ran_jobs : (T : ℕ → ℕ) (js : List Job) → serial box T (starts js) (length js) ≡ serial box T (λ k. starting (get_or (map code_of js) k [])) (length (map code_of js))
ran_jobs T js = rw (length-map js code_of) (ap (λ (s : ℕ → Running). serial box T s (length js)) (fun_ext (λ k. ap starting (sym (get_or-map code_of js k no_job)))))

module _ (paper : List ℕ) (js : Jobs) (er : Answers (Ok js) (paper_answer paper)) where
  pub few_jobs : js.count ≤ 16
  few_jobs = omega (arith, jobs_long js, (accepted_jobs paper (jobs_of js) (sym er.answer)).0)

  pub all_pass : AllPass js.jobs js.count
  all_pass = record { pass = λ k l. record { passed = rw (job_is_lem js k l) at ((accepted_jobs paper (jobs_of js) (sym er.answer)).1 k (rw (jobs_long js) l)) } }

  -- .. as the part of the array that the code hands on
  module _ (whole : length js.jobs ≡ 16) where
    few : js.count ≤ length js.jobs
    few = rw whole few_jobs

    pub part_jobs : map code_of (take js.count js.jobs) ≡ jobs_of js
    part_jobs = front_jobs js.jobs js.count js.count refl few

    pub part_pass : (length (take js.count js.jobs) ≤ 16) × AllPass (take js.count js.jobs) (length (take js.count js.jobs))
    part_pass = front_pass js.jobs js.count js.count refl few whole all_pass
