-- An opened block stands for fresh jobs, since each count is 0 and each array is filled with one entry;
-- and the jobs that are opened are those of the checker's answer.
use mathlib.Core.Path.{◌≡◌, refl, ap, sym, ◌∙◌}
use Rattle.std.specs.Prelude.{Ok, Err}
use mathlib.Core.List.{List, [], map}
use Prim.Native.Nat.{ℕ, ◌*◌, ◌≤◌, ◌<◌}
use native.Mathlib.Omega.{arith}
use lib.ListN.{length, get_or, take, replicate, get_or-replicate}
use borrow.Author.Tests.{ne_eqb}
use Rattle.theory.specs.Lists.{length_firsts, tab_same, get_d_tab, map_tab}
use Rattle.theory.specs.Engine as E
use Rattle.machine.specs.Limits.{LONGEST, FEW, JOBS, CELLS}
use Rattle.machine.specs.Machine.{Running, stopping, starting}
use Rattle.machine.specs.Paper.{paper_answer}
use Rattle.machine.specs.View.{code_of, fresh_state, no_job, Answers}
use Rattle.machine.specs.declared.instruction.Instruction.{Instruction}
use Rattle.machine.specs.declared.job.State.{State}
use Rattle.machine.specs.declared.paper.Jobs.{Jobs}
use Rattle.machine.specs.declared.paper.Refusal.{Refusal}
use Rattle.rules.specs.Program.{no_program, stops_of, packed, program_of, all_packed}
use Rattle.rules.specs.View.{entries_of, versions_of, mark_of, no_journal, no_versions, no_reads, empty_journal, empty_versions, empty_reads}
use Rattle.rules.specs.Box.{box, limits}
use Rattle.rules.specs.Block.{no_state, reads_of, job_of, block_of}
use Rattle.turns.specs.Open.{nothing_open, opened_by, open_block, open_answer, opening_of, filled_block, whole_block, whole_by, open_whole, Opens, fresh_block}
use Rattle.rules.specs.declared.block.Journal.{Journal}
use Rattle.rules.specs.declared.block.Versions.{Versions}
use Rattle.rules.specs.declared.block.Reads.{Reads}
use Rattle.rules.specs.declared.block.Program.{Program}
use Rattle.rules.specs.declared.block.Block.{Block}
use Rattle.turns.specs.declared.open.OpenRefusal.{OpenRefusal}
use Rattle.turns.specs.declared.open.OpenRefusal.TheVariants.{WrongTable, Paper}
use Rattle.turns.proofs.Laws.Accepted.{jobs_of, jobs_long, job_is_lem, few_jobs, all_pass, part_jobs}
use Rattle.rules.proofs.Laws.Filled.{tab_get_d}
use Rattle.rules.proofs.Laws.Program.{passed_few, packed_stands}

-- ---- the fresh jobs
pub fresh_is : (table : List ℕ) (n : ℕ) (ps : List Program) (s : State) (j : Journal) (v : Versions) (r : Reads) → s ≡ fresh_state → j ≡ empty_journal → v ≡ empty_versions → r ≡ empty_reads
    → record { start = table; count = n; jobs = ps; states = replicate JOBS s; status = replicate JOBS 0; journals = replicate JOBS j; versions = replicate JOBS v; reads = replicate JOBS r; checkpoints = replicate (FEW * JOBS) (record { state = s; writes = 0; listed = 0 }) }
    ≡ filled_block table n ps
unfolding filled_block
fresh_is table n ps s j v r es ej ev er = rw (es, ej, ev, er) refl

module _ (table : List ℕ) (n : ℕ) (ps : List Program) (few : n ≤ JOBS) where
  fresh_at : (k : ℕ) → k < JOBS → job_of (filled_block table n ps) k ≡ E.fresh (starting (program_of (get_or ps k no_program)))
  unfolding filled_block job_of reads_of entries_of versions_of mark_of
  fresh_at k l = rw (get_or-replicate JOBS k fresh_state no_state l, get_or-replicate JOBS k empty_journal no_journal l, get_or-replicate JOBS k empty_versions no_versions l, get_or-replicate JOBS k empty_reads no_reads l, get_or-replicate {A = ℕ} JOBS k 0 0 l) refl

  filled_is : block_of (filled_block table n ps) ≡ fresh_block table n ps
  unfolding block_of fresh_block filled_block
  filled_is = ap (λ (l : List (E.Job Running)). record { table = table; jobs = l }) (tab_same n (job_of (filled_block table n ps)) (λ k. E.fresh (starting (program_of (get_or ps k no_program)))) (λ k l. fresh_at k (omega arith)))

-- the block that is opened stands for the jobs of the paper, each at its start
whole_is : (table : List ℕ) (js : List (List Instruction)) → length js ≤ JOBS → ((k : ℕ) → k < length js → length (get_or js k []) ≤ LONGEST)
    → block_of (whole_block table js) ≡ E.opened limits box table (map starting js)
unfolding whole_block fresh_block all_packed
whole_is table js few short =
    filled_is table (length js) (all_packed js) few
    ∙ ap (λ (l : List (E.Job Running)). record { table = table; jobs = l })
    (tab_same (length js) (λ k. E.fresh (starting (program_of (get_or (all_packed js) k no_program)))) (λ k. E.fresh (starting (get_or js k [])))
    (λ k l. ap (λ (is : List Instruction). E.fresh (starting is)) (ap program_of (get_d_tab JOBS (λ i. packed (get_or js i [])) k no_program (omega arith)) ∙ packed_stands (get_or js k []) (short k l)))
    ∙ sym (map_tab E.fresh (length js) (λ k. starting (get_or js k []))) ∙ ap (map E.fresh) (sym (map_tab starting (length js) (λ k. get_or js k [])) ∙ ap (map starting) (tab_get_d [] js)))

pub nothing_is : (b : Block) (p : Program) → p ≡ stops_of 0 → b ≡ filled_block (replicate CELLS 0) 0 (replicate JOBS p) → b ≡ whole_block (replicate CELLS 0) []
unfolding whole_block all_packed packed
nothing_is b p e q = rw (e) at q

nothing_stands : block_of (whole_block (replicate CELLS 0) []) ≡ nothing_open
unfolding nothing_open
nothing_stands = whole_is (replicate CELLS 0) [] (omega arith) (λ k l. absurd (omega arith))

-- ---- the answer
module _ (start paper : List ℕ) where
  pub open_wrong : (b : Block) → (length start ≡ CELLS → ⊥) → b ≡ whole_block (replicate CELLS 0) [] → Opens start paper (record { answer = Err WrongTable; block = b })
  unfolding opening_of open_answer open_block open_whole
  open_wrong b e q = record { answer = rw (ne_eqb _ _ e) refl; block = rw (ne_eqb _ _ e) (ap block_of q ∙ nothing_stands); whole = rw (ne_eqb _ _ e) q }

  module _ (es : length start ≡ CELLS) where
    pub open_refused : (e : Refusal) (r : OpenRefusal) (b : Block) → Answers (Err e) (paper_answer paper) → r ≡ Paper e → b ≡ whole_block (replicate CELLS 0) []
        → Opens start paper (record { answer = Err r; block = b })
    unfolding opening_of open_answer open_block opened_by open_whole whole_by
    open_refused e r b er q eb = record { answer = rw (es, ← er.answer, q) refl; block = rw (es, ← er.answer) (ap block_of eb ∙ nothing_stands); whole = rw (es, ← er.answer) eb }

    module _ (js : Jobs) (er : Answers (Ok js) (paper_answer paper)) where
      short : (k : ℕ) → k < length (jobs_of js) → length (get_or (jobs_of js) k []) ≤ LONGEST
      short k l =
          let m : k < js.count = omega (arith, l, jobs_long js) in
          rw (job_is_lem js k m) (omega (arith, passed_few (get_or js.jobs k no_job) ((all_pass paper js er).pass k m), length_firsts (get_or js.jobs k no_job).size stopping (get_or js.jobs k no_job).code))

      pub open_accepted : (b : Block) (table : List ℕ) (ps : List Program) → table ≡ start → length js.jobs ≡ 16 → ps ≡ all_packed (map code_of (take js.count js.jobs)) → b ≡ filled_block table js.count ps → Opens start paper (record { answer = Ok tt; block = b })
      unfolding opening_of open_answer open_block opened_by open_whole whole_by whole_block
      open_accepted b table ps et whole ep eb =
          let same : b ≡ whole_block start (jobs_of js) = eb ∙ rw (et, ep, part_jobs paper js er whole, jobs_long js) refl in
          record {
            answer = rw (es, ← er.answer) refl;
            block = rw (es, ← er.answer) (ap block_of same ∙ whole_is start (jobs_of js) (rw (jobs_long js) (few_jobs paper js er)) short);
            whole = rw (es, ← er.answer) same;
          }
