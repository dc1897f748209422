-- One instruction of a running job, or its end: each act of the machine is a clause of the plain rules, once the structs are read as what they stand for.
use mathlib.Core.Path.{◌≡◌, ap, sym, subst, ◌∙◌}
use mathlib.Core.Bool.{Bool, true, false, cond}
use mathlib.Core.List.{List, [], ◌∷◌}
use Prim.Native.Nat.{ℕ, suc, ◌-◌, ◌≤◌, ◌<◌}
use native.Mathlib.Omega.{arith}
use lib.ListN.{length, get_or}
use Rattle.theory.specs.Engine as E
use Rattle.theory.specs.Engine.{step_to, end_with, published}
use Rattle.theory.specs.Every.{every_at}
use Rattle.theory.proofs.Versions.{Below, published_below}
use Rattle.machine.specs.Limits.{ROOM, FEW}
use Rattle.machine.specs.Machine.{State as Plain, Running, given, in_job, current}
use Rattle.machine.specs.View.{state_of, act_of}
use Rattle.machine.specs.declared.counts.Cell.{Cell}
use Rattle.machine.specs.declared.step.Act.{Act as CodeAct}
use Rattle.machine.specs.declared.step.Act.TheVariants.{Nothing as NoAct, Read as ReadAct, Write as WriteAct, Stop as StopAct, Abandon as AbandonAct, Stuck as StuckAct}
use Rattle.machine.specs.declared.step.Stepped.{Stepped}
use Rattle.rules.specs.Box.{box, box_promise}
use Rattle.rules.specs.View.{journal_of, length_journal, versions_of, no_journal, Showing}
use Rattle.rules.specs.Block.{code_at, no_state, running_of, job_of}
use Rattle.rules.specs.Steps.{StepsIn}
use Rattle.rules.specs.Becomes.{Becomes}
use Rattle.rules.specs.Turn.{jobs, cells, reading, writing, stepping, Did, Reading, Whole}
use Rattle.rules.specs.declared.block.Journal.{Journal}
use Rattle.rules.specs.declared.block.Versions.{Versions}
use Rattle.rules.specs.declared.block.Block.{Block}
use Rattle.words.specs.declared.word.Word.TheVariants.{Step, End, Stuck}
use Rattle.rules.specs.declared.block.Turned.{Turned}
use Rattle.rules.proofs.Laws.Versions.{length_versions}
use Rattle.rules.proofs.Laws.Moves.{version_at_lem}
use Rattle.rules.proofs.Laws.Given.{given_is}
use Rattle.rules.proofs.Laws.Words.{end_did, step_did, stuck_did}
use Rattle.rules.proofs.Laws.Reading.{few_entries}

-- ---- one instruction, or the end
lasts_few : (k : ℕ) (j : List E.Entry) → length (E.lasts_from k j) ≤ length j
lasts_few k [] = omega arith
lasts_few k (e ∷ es) = go (E.writes? es e.cell) (lasts_few (suc k) es)
  where
    go : (t : Bool) → length (E.lasts_from (suc k) es) ≤ length es → length (cond t (E.lasts_from (suc k) es) (k ∷ E.lasts_from (suc k) es)) ≤ suc (length es)
    go true h = omega arith
    go false h = omega arith

pub stop_showing : (b : Block) (t : ℕ) (new : Versions) → Whole b → 0 < t → t ≤ b.count → versions_of new ≡ published (journal_of (get_or b.journals (t - 1) no_journal))
    → Showing (get_or b.journals (t - 1) no_journal) new
stop_showing b t new w p l e = record { entries = few; numbers = low; named = λ k h. rw (version_at_lem new k low h) (named k h) }
  where
    j : Journal
    j = get_or b.journals (t - 1) no_journal

    few : j.size ≤ 8
    few = few_entries b t w.sized p l

    low : new.size ≤ 8
    low = omega (arith, few, ap length e, length_versions new, lasts_few 0 (journal_of j), length_journal j)

    named : (k : ℕ) → k < new.size → get_or (versions_of new) k 0 < j.size
    named k h = every_at (λ x. x < j.size) (versions_of new) k 0 (rw (length_versions new) h) (rw e (subst (λ (n : ℕ). Below n (published (journal_of j))) (length_journal j) (published_below (journal_of j))))

pub abandon_showing : (b : Block) (t : ℕ) (new : Versions) → Whole b → 0 < t → t ≤ b.count → versions_of new ≡ [] → Showing (get_or b.journals (t - 1) no_journal) new
abandon_showing b t new w p l e = record { entries = few_entries b t w.sized p l; numbers = omega (arith, none); named = λ k h. absurd (omega (arith, none)) }
  where
    none : new.size ≡ 0
    none = sym (length_versions new) ∙ ap length e

module _ (b : Block) (i : ℕ) (done : Stepped) (h : StepsIn (code_at b i) (get_or b.states i no_state) done) where
  abbrev told : CodeAct → E.Moved Running
  told x = E.instructed FEW box (cells b) (jobs b) i (job_of b i) (in_job (code_at b i) (act_of x (state_of done.state)))

  acts : (x : CodeAct) → done.act ≡ x → box.act (job_of b i).state ≡ in_job (code_at b i) (act_of x (state_of done.state))
  unfolding job_of
  acts x e = sym (ap (in_job (code_at b i)) h.steps.asks) ∙ ap (λ (y : CodeAct). in_job (code_at b i) (act_of y (state_of done.state))) e

  asks : (x : CodeAct) → done.act ≡ x → stepping b i ≡ told x
  unfolding stepping
  asks x e = ap (E.instructed FEW box (cells b) (jobs b) i (job_of b i)) (acts x e)

  pub step_nothing : (r : Block) → done.act ≡ NoAct → i < b.count → Becomes b r i (step_to (job_of b i) (running_of (code_at b i) done.state))
      → Did b i (stepping b i) (record { word = Step; block = r })
  step_nothing r e inside k = rw (asks NoAct e) (step_did b i inside r (step_to (job_of b i) (running_of (code_at b i) done.state)) k)

  pub step_read : (c : Cell) (r : Turned) → done.act ≡ ReadAct c → Did b i (reading b i c.0) r → Did b i (stepping b i) r
  unfolding reading
  step_read c r e d = rw (asks (ReadAct c) e) d

  pub step_reading : (c : Cell) → done.act ≡ ReadAct c → Reading b i done.state c.0
  unfolding job_of
  step_reading c e = record {
    cell = box_promise.cell_read (job_of b i).state c.0 (acts (ReadAct c) e);
    value = λ v. ap (λ (x : Plain). record { code = code_at b i; state = x })
        (ap (given ROOM v) h.steps.leaves ∙ given_is (length (code_at b i)) (current (running_of (code_at b i) (get_or b.states i no_state))) (state_of (get_or b.states i no_state)) c.0 v
        (sym h.steps.asks ∙ ap (λ (x : CodeAct). act_of x (state_of done.state)) e));
  }

  pub step_write : (c : Cell) (v : ℕ) (r : Turned) → done.act ≡ WriteAct c v → Did b i (writing b i done.state (record { cell = c; value = v })) r → Did b i (stepping b i) r
  unfolding writing
  step_write c v r e d = rw (asks (WriteAct c v) e) d

  pub step_stop : (new : Versions) (r : Block) → done.act ≡ StopAct → i < b.count → versions_of new ≡ published (journal_of (get_or b.journals i no_journal))
      → Becomes b r i (end_with (job_of b i) (versions_of new)) → Did b i (stepping b i) (record { word = End; block = r })
  unfolding job_of
  step_stop new r e inside q k = rw (asks StopAct e) (end_did b i inside r (end_with (job_of b i) (published (job_of b i).journal)) (rw (← q) k))

  pub step_abandon : (new : Versions) (r : Block) → done.act ≡ AbandonAct → i < b.count → versions_of new ≡ [] → Becomes b r i (end_with (job_of b i) (versions_of new))
      → Did b i (stepping b i) (record { word = End; block = r })
  step_abandon new r e inside q k = rw (asks AbandonAct e) (end_did b i inside r (end_with (job_of b i) []) (rw (← q) k))

  pub step_stuck : done.act ≡ StuckAct → Did b i (stepping b i) (record { word = Stuck; block = b })
  step_stuck e = rw (asks StuckAct e) (stuck_did b i (job_of b i))
