-- The serial run: a store is one entry more over the table, a job's writes make the job alone, and job after job makes the whole run.
use mathlib.Core.Path.{◌≡◌, refl, ap, sym, ◌∙◌}
use mathlib.Core.Bool.{Bool, true, false, cond}
use Rattle.std.specs.Prelude.{Option, None, Some, unwrap_or, Result, Ok, Err, IsErrAnd}
use mathlib.Core.List.{List, [], ◌∷◌, ◌++◌, append-nil}
use Prim.Native.Nat.{ℕ, zero, ◌+◌, ◌≤◌, ◌<◌}
use native.Mathlib.Omega.{arith}
use native.Mathlib.Numerals.{add-one}
use native.Mathlib.Decide.{ℕ_discrete}
use lib.Dec.{eqb}
use lib.ListN.{length, get_or, take, drop, set, drop_of_length-le}
use lib.Seq.{get_or-set_same, get_or-set_other, ext_get_or}
use borrow.Author.Tests.{eq-eqb, ne_eqb}
use Rattle.theory.specs.Lists.{tab, length_tab, get_d_tab}
use Rattle.theory.specs.Every.{every_at}
use Rattle.theory.specs.Engine as E
use Rattle.theory.specs.Engine.{last_at, last_value, or_else, next}
use Rattle.theory.specs.Serial.{over, alone, serial}
use Rattle.machine.specs.Machine.{starting}
use Rattle.machine.specs.Paper.{paper_answer}
use Rattle.machine.specs.View.{code_of, no_job, Answers}
use Rattle.machine.specs.declared.job.Job.{Job}
use Rattle.machine.specs.declared.paper.Jobs.{Jobs}
use Rattle.machine.specs.declared.paper.Refusal.{Refusal}
use Rattle.rules.specs.Box.{box}
use Rattle.std.proofs.lemmas.List.{get_or-take, length-take-le}
use Rattle.rules.specs.View.{no_entry, entry_of, entries_of, journal_of, length_journal}
use Rattle.turns.specs.SerialRun.{cells_of, ran_on, output_after, unless_wrong, serial_answer, serial_table, Serves}
use Rattle.turns.specs.Open.{opening_of}
use Rattle.turns.specs.Alone.{Writes, starts}
use Rattle.rules.specs.declared.block.Entry.{Entry}
use Rattle.rules.specs.declared.block.Journal.{Journal}
use Rattle.turns.specs.declared.open.OpenRefusal.{OpenRefusal}
use Rattle.turns.specs.declared.open.OpenRefusal.TheVariants.{WrongTable, Paper}
use Rattle.rules.proofs.Laws.Journal.{entry_is}
use Rattle.turns.proofs.Laws.Accepted.{ran_jobs, part_jobs}

-- ---- writes in order
-- the last value of a journal, from its front
value_front : (x : E.Entry) (es : List E.Entry) (c : ℕ) → last_value (x ∷ es) c ≡ or_else (last_value es c) (cond (eqb x.cell c) (Some x.value) None)
value_front x es c = go (last_at es c) (eqb x.cell c)
  where
    go : (o : Option ℕ) (t : Bool) → E.value_at (x ∷ es) (or_else (next o) (cond t (Some zero) None)) ≡ or_else (E.value_at es o) (cond t (Some x.value) None)
    go (Some k) t = refl
    go None true = refl
    go None false = refl

-- .. and of one that ends in e
value_end : (es : List E.Entry) (e : E.Entry) (c : ℕ) → last_value (es ++ (e ∷ [])) c ≡ cond (eqb e.cell c) (Some e.value) (last_value es c)
value_end [] e c = value_front e [] c
value_end (x ∷ es) e c = value_front x (es ++ (e ∷ [])) c ∙ rw (value_end es e c, value_front x es c) (go (eqb e.cell c))
  where
    go : (t : Bool) → or_else (cond t (Some e.value) (last_value es c)) (cond (eqb x.cell c) (Some x.value) None)
        ≡ cond t (Some e.value) (or_else (last_value es c) (cond (eqb x.cell c) (Some x.value) None))
    go true = refl
    go false = refl

-- one more entry over a table is one store more
store : (es : List E.Entry) (T : ℕ → ℕ) (e : E.Entry) (table : List ℕ) → e.cell < length table → cells_of table ≡ over es T → cells_of (set table e.cell e.value) ≡ over (es ++ (e ∷ [])) T
store es T e table l q j c = at c j
  where
    at : (c : ℕ) → get_or (set table e.cell e.value) c 0 ≡ unwrap_or (last_value (es ++ (e ∷ [])) c) (T c)
    at c = rw (value_end es e c) (go (ℕ_discrete e.cell c))
      where
        go : Dec (e.cell ≡ c) → get_or (set table e.cell e.value) c 0 ≡ unwrap_or (cond (eqb e.cell c) (Some e.value) (last_value es c)) (T c)
        go (yes w) = rw (eq-eqb _ _ w) (rw (← w) (get_or-set_same table e.cell e.value 0 l))
        go (no w) = rw (ne_eqb _ _ w) (get_or-set_other table e.cell c e.value 0 (λ z. w (sym z)) ∙ (λ i. q i c))

module _ (j : Journal) (w : Writes j) (long : length j.entries ≡ 8) where
  -- as many entries as the journal counts
  as_many : length (take j.size j.entries) ≡ j.size
  as_many = length-take-le j.size j.entries (omega (arith, long, w.few))

  module _ (k : ℕ) (l : k < length (take j.size j.entries)) where
    abbrev e : Entry
    e = get_or (take j.size j.entries) k no_entry

    low : k < j.size
    low = omega (arith, as_many)

    stands : entry_of e ≡ get_or (journal_of j) k E.no_entry
    unfolding entries_of
    stands = ap entry_of (get_or-take j.size j.entries k no_entry low) ∙ sym (get_d_tab j.size _ k E.no_entry low)

    pub apply_cell : e.cell.0 < 256
    apply_cell =
        let z = rw (← stands) at (every_at (λ x. x.cell < 256) (journal_of j) k E.no_entry (rw (length_journal j) low) w.cells) in
        omega arith

    pub apply_on : (table before : List ℕ) → length table ≡ 256 → cells_of table ≡ over (entries_of k j) (cells_of before)
        → cells_of (set table e.cell.0 e.value) ≡ over (entries_of (k + 1) j) (cells_of before)
    unfolding entries_of
    apply_on table before size q =
        rw (add-one k, entry_is j k low, ← stands) (store (entries_of k j) (cells_of before) (entry_of e) table (rw size apply_cell) q)

  pub apply_end : (k : ℕ) (table : List ℕ) (T : ℕ → ℕ) → length (take j.size j.entries) ≤ k → k ≤ length (take j.size j.entries) → cells_of table ≡ over (entries_of k j) T
      → cells_of table ≡ over (journal_of j) T
  apply_end k table T l m q = let same : k ≡ j.size = omega (arith, as_many) in rw same at q

pub apply_start : (j : Journal) (table : List ℕ) → cells_of table ≡ over (entries_of 0 j) (cells_of table)
unfolding entries_of
apply_start j table = refl

-- ---- the jobs, one after another
pub jobs_start : (js : List Job) (before : List ℕ) → cells_of before ≡ serial box (cells_of before) (starts js) 0
unfolding serial
jobs_start js before = refl

pub jobs_on : (js : List Job) (k : ℕ) (before table after : List ℕ) → cells_of table ≡ serial box (cells_of before) (starts js) k → cells_of after ≡ alone box (cells_of table) (starting (code_of (get_or js k no_job)))
    → cells_of after ≡ serial box (cells_of before) (starts js) (k + 1)
unfolding serial
jobs_on js k before table after q r = rw (add-one k) (r ∙ ap (λ (T : ℕ → ℕ). alone box T (starts js k)) q)

-- ---- the whole
-- a list by its entries
pub by_cells : (l : List ℕ) (n : ℕ) (f : ℕ → ℕ) → length l ≡ n → cells_of l ≡ f → l ≡ tab n f
by_cells l n f e q =
    ext_get_or 0 l (tab n f) (rw (length_tab n f) e) (λ i m. (λ j. q j i) ∙ sym (get_d_tab n f i 0 (rw e at m)))

-- what is written over a table of 256 cells is all of it
pub written_whole : (before after : List ℕ) → length before ≡ 256 → after ++ drop 256 before ≡ after
written_whole before after e = rw (drop_of_length-le before {i = 256} (omega arith)) (append-nil after)

module _ (start output paper : List ℕ) where
  pub wrong_start : (length start ≡ 256 → ⊥) → Serves start output paper (Err WrongTable) output
  unfolding opening_of serial_answer serial_table unless_wrong
  wrong_start e = record { answer = rw (ne_eqb _ _ e) refl; table = rw (ne_eqb _ _ e) refl }

  module _ (es : length start ≡ 256) where
    pub wrong_output : (length output ≡ 256 → ⊥) → Serves start output paper (Err WrongTable) output
    unfolding opening_of serial_answer serial_table unless_wrong
    wrong_output e = record { answer = rw (es, ne_eqb _ _ e) refl; table = rw (es, ne_eqb _ _ e) refl }

    module _ (eo : length output ≡ 256) where
      pub serve_refused : (e : Refusal) (r : Result Unit OpenRefusal) → Answers (Err e) (paper_answer paper) → IsErrAnd r (λ x. x ≡ Paper e) → Serves start output paper r output
      unfolding opening_of serial_answer serial_table unless_wrong output_after
      serve_refused e (Err x) er q = record { answer = rw (es, eo, ← er.answer, q) refl; table = rw (es, eo, ← er.answer) refl }
      serve_refused e (Ok t) er q = absurd q

      pub serve_ran : (js : Jobs) (after : List ℕ) → Answers (Ok js) (paper_answer paper) → length js.jobs ≡ 16
          → after ≡ tab 256 (serial box (cells_of start) (starts (take js.count js.jobs)) (length (take js.count js.jobs))) → Serves start output paper (Ok tt) (after ++ drop 256 output)
      unfolding opening_of serial_answer serial_table unless_wrong output_after ran_on
      serve_ran js after er whole q = record {
        answer = rw (es, eo, ← er.answer) refl;
        table = rw (es, eo, ← er.answer, ← part_jobs paper js er whole) (written_whole output after eo ∙ q ∙ ap (tab 256) (ran_jobs (cells_of start) (take js.count js.jobs)));
      }
