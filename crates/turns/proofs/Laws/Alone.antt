-- A job alone: the code's instruction is the machine's, where a READ's value takes the place of the cell number;
-- and each instruction keeps that the rest is the rest of the whole, with room in the journal for what may still be written.
use mathlib.Core.Path.{◌≡◌, refl, ap, sym, subst, ◌∙◌}
use mathlib.Core.Bool.{◌&&◌}
use mathlib.Core.Logic.{◌⊎◌, inl, inr}
use mathlib.Core.List.{List, [], ◌∷◌, ◌++◌}
use Prim.Native.Nat.{ℕ, suc, ◌+◌, ◌≤◌, ◌<◌}
use native.Mathlib.Omega.{arith}
use lib.Dec.{leb, ltb}
use lib.ListN.{length, get_or, length-append}
use borrow.Author.Tests.{leb-true}
use Rattle.theory.specs.Lists.{length_firsts, get_d_firsts}
use Rattle.theory.specs.Promise.{Act}
use Rattle.theory.specs.Every.{every_append}
use Rattle.theory.specs.Serial.{over, solo, alone}
use Rattle.machine.specs.Limits.{ROOM, CELLS}
use Rattle.machine.specs.Machine.{State as Plain, Running, stopping, current, starting, formed, sizes, in_job, given}
use Rattle.theory.proofs.ReadSizes.{both}
use Rattle.machine.specs.View.{state_of, code_of, act_of, Steps}
use Rattle.machine.specs.declared.counts.Cell.{Cell}
use Rattle.machine.specs.declared.instruction.Instruction.{Instruction}
use Rattle.machine.specs.declared.job.Job.{Job}
use Rattle.machine.specs.declared.job.State.{State}
use Rattle.machine.specs.declared.step.Stepped.{Stepped}
use Rattle.machine.specs.declared.step.Act.{Act as CodeAct}
use Rattle.machine.specs.declared.step.Act.TheVariants.{Nothing, Read, Write, Stop, Abandon, Stuck}
use Rattle.rules.specs.Box.{box, box_checked, box_promise}
use Rattle.rules.specs.View.{entry_of, journal_of, length_journal}
use Rattle.rules.specs.Block.{running_of}
use Rattle.rules.specs.Steps.{StepsIn, Passes}
use Rattle.turns.specs.Alone.{Leaves, Runs, RunsOn, Begins}
use Rattle.rules.specs.declared.block.Journal.{Journal}
use Rattle.turns.specs.declared.serial.Alone.{Alone}
use Rattle.rules.proofs.Laws.Given.{given_is}
use Rattle.turns.proofs.Laws.Solo.{solo_stop, solo_abandon, rest_nothing, rest_read, rest_write}

-- ---- the instruction at which a job stands
pub steps_in : (job : Job) (s : State) (r : Stepped) → s.place.0 < job.size → Steps ROOM job.size (get_or job.code s.place.0 stopping) (state_of s) r.act (state_of r.state)
    → StepsIn (code_of job) s r
steps_in job s r l h = record { steps = rw (length_firsts job.size stopping job.code, get_d_firsts job.size stopping job.code s.place.0 l) h }

-- a state of a job that passed stands in its job
module _ (job : Job) (T : ℕ → ℕ) (a : Alone) (g : Runs (code_of job) T a) where
  pub place_in : a.state.place.0 < job.size
  place_in = omega (arith, length_firsts job.size stopping job.code, box_checked.some_left (running_of (code_of job) a.state) g.ok)

  pub size_in : job.size ≤ 64
  unfolding sizes
  size_in =
      let n = length (code_of job) in
      let x = both (leb n 64 && formed (code_of job) n n && ltb a.state.place.0 n) (leb (length (state_of a.state).stack) 16) (box_checked.ok_fits (running_of (code_of job) a.state) g.ok) in
      let y = both (leb n 64 && formed (code_of job) n n) (ltb a.state.place.0 n) x.0 in
      let z = leb-true n 64 (both (leb n 64) (formed (code_of job) n n) y.0).0 in
      omega (arith, z, length_firsts job.size stopping job.code)

module _ (is : List Instruction) (T : ℕ → ℕ) (a : Alone) (r : Stepped) (known : Runs is T a) (er : StepsIn is a.state r) where
  abbrev here : Running
  here = running_of is a.state

  abbrev told : CodeAct → Act Running
  told x = in_job is (act_of x (state_of r.state))

  asks : (x : CodeAct) → r.act ≡ x → box.act here ≡ told x
  asks x e = sym (ap (in_job is) er.steps.asks) ∙ ap told e

  pub read_inside : (c : Cell) → r.act ≡ Read c → c.0 < CELLS
  read_inside c e = omega (arith, box_promise.cell_read here c.0 (asks (Read c) e))

  pub write_room : (c : Cell) (v : ℕ) → r.act ≡ Write c v → a.journal.size < 8
  write_room c v e = omega (arith, known.room, (box_checked.ok_write here (running_of is r.state) c.0 v known.ok (asks (Write c v) e)).2)

  pub alone_nothing : r.act ≡ Nothing → RunsOn is T a (record { state = r.state; journal = a.journal })
  alone_nothing e =
      let t = running_of is r.state in
      let k = box_checked.ok_nothing here t known.ok (asks Nothing e) in
      record {
        runs = record {
          writes = known.writes;
          ok = k.0;
          room = omega (arith, known.room, k.2);
          rest = rest_nothing box T CELLS box_promise (journal_of a.journal) here _ known.rest t (asks Nothing e);
        };
        less = box_promise.after_nothing here t (asks Nothing e);
      }

  pub alone_read : (c : Cell) (v : ℕ) (t : State) → r.act ≡ Read c → v ≡ over (journal_of a.journal) T c.0 → state_of t ≡ given ROOM v (state_of r.state)
      → RunsOn is T a (record { state = t; journal = a.journal })
  alone_read c v t e ev et =
      record {
        runs = record {
          writes = known.writes;
          ok = rw same k.0;
          room = rw same (omega (arith, known.room, k.2));
          rest = rest_read box T CELLS box_promise (journal_of a.journal) here _ known.rest (running_of is t) c.0 (asks (Read c) e) (same ∙ ap (box.given here) ev);
        };
        less = subst (λ (x : Running). box.left x < box.left here) (sym same) (box_promise.after_read here c.0 v (asks (Read c) e));
      }
    where
      same : running_of is t ≡ box.given here v
      same =
          ap (λ (x : Plain). record { code = is; state = x })
          (et ∙ ap (given ROOM v) er.steps.leaves ∙ given_is (length is) (current here) (state_of a.state) c.0 v (sym er.steps.asks ∙ ap (λ (x : CodeAct). act_of x (state_of r.state)) e))

      k : box_checked.Ok (box.given here v) × (box_checked.reads_left (box.given here v) < box_checked.reads_left here) × (box_checked.writes_left (box.given here v) ≤ box_checked.writes_left here)
      k = box_checked.ok_read here c.0 v known.ok (asks (Read c) e)

  pub alone_write : (c : Cell) (v : ℕ) (j : Journal) → r.act ≡ Write c v → journal_of j ≡ journal_of a.journal ++ (entry_of (record { cell = c; value = v }) ∷ [])
      → RunsOn is T a (record { state = r.state; journal = j })
  alone_write c v j e ej =
      record {
        runs = record {
          writes = record { few = omega (arith, size, known.room, k.2); cells = rw ej (every_append (λ x. x.cell < CELLS) (journal_of a.journal) _ known.writes.cells (box_promise.cell_write here t c.0 v (asks (Write c v) e), tt)) };
          ok = k.0;
          room = omega (arith, size, known.room, k.2);
          rest = rest_write box T CELLS box_promise (journal_of a.journal) here _ known.rest (journal_of j) t c.0 v (asks (Write c v) e) ej;
        };
        less = box_promise.after_write here t c.0 v (asks (Write c v) e);
      }
    where
      t : Running
      t = running_of is r.state

      k : box_checked.Ok t × (box_checked.reads_left t ≤ box_checked.reads_left here) × (box_checked.writes_left t < box_checked.writes_left here)
      k = box_checked.ok_write here t c.0 v known.ok (asks (Write c v) e)

      size : j.size ≡ a.journal.size + 1
      size = sym (length_journal j) ∙ ap length ej ∙ length-append (journal_of a.journal) _ ∙ ap (λ (n : ℕ). n + 1) (length_journal a.journal)

  pub alone_stop : r.act ≡ Stop → Leaves is T a.journal
  alone_stop e = record { writes = known.writes; does = sym (solo_stop box T _ (journal_of a.journal) here (asks Stop e)) ∙ known.rest }

  pub alone_abandon : (j : Journal) → (r.act ≡ Abandon) ⊎ (r.act ≡ Stuck) → journal_of j ≡ [] → Leaves is T j
  alone_abandon j (inl e) ej = record {
    writes = record { few = omega (arith, ap length ej, length_journal j); cells = rw ej tt };
    does = rw ej (sym (solo_abandon box T _ (journal_of a.journal) here (asks Abandon e)) ∙ known.rest);
  }
  alone_abandon j (inr e) ej = absurd (box_checked.not_stuck here known.ok (asks Stuck e))

-- ---- the whole of a job alone
pub alone_start : (job : Job) (T : ℕ → ℕ) (a : Alone) → Passes job → Begins a → Runs (code_of job) T a
unfolding alone
alone_start job T a p b = record {
  writes = record { few = omega (arith, empty); cells = rw b.empty tt };
  ok = rw same p.passed.ok;
  room = rw same (omega (arith, empty, p.passed.few_writes));
  rest = ap (λ (x : Running). solo box (suc (box.left x)) T (journal_of a.journal) x) same ∙ rw b.empty refl;
}
  where
    same : running_of (code_of job) a.state ≡ starting (code_of job)
    same = ap (λ (x : Plain). record { code = code_of job; state = x }) b.state

    empty : a.journal.size ≡ 0
    empty = sym (length_journal a.journal) ∙ ap length b.empty
