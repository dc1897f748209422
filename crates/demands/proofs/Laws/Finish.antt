-- An opening, its turns and the settled table are the plain engine's, so demand 2 speaks of them: the table is the serial run.
use mathlib.Core.Path.{◌≡◌, refl, ap, sym, ◌∙◌}
use mathlib.Core.Bool.{Bool, true, false, not, cond, ◌||◌}
use Rattle.std.specs.Prelude.{Result, Ok, Err, IsOk, IsErrAnd}
use mathlib.Core.List.{List}
use Prim.Native.Nat.{ℕ, ◌<◌}
use native.Mathlib.Omega.{arith}
use native.Mathlib.Decide.{ℕ_discrete}
use lib.Dec.{eqb}
use lib.ListN.{length}
use borrow.Author.Tests.{eq-eqb, ne_eqb}
use Rattle.theory.specs.Engine as E
use Rattle.theory.proofs.Finals.{finals_turns}
use Rattle.theory.proofs.Sizes.{turns_fit}
use Rattle.machine.specs.Limits.{CELLS}
use Rattle.machine.specs.Paper.{Answer, jobs, refused, refusal, paper_answer}
use Rattle.machine.specs.View.{number, number_some}
use Rattle.machine.specs.declared.instruction.Instruction.{Instruction}
use Rattle.rules.specs.Box.{box, limits, box_promise}
use Rattle.rules.specs.Block.{block_of}
use Rattle.turns.specs.Many.{if_long, taking_of, Takes}
use Rattle.turns.specs.Open.{open_answer, open_block, opening_of, Opens}
use Rattle.turns.specs.Settled as S
use Rattle.turns.specs.Settled.{f_of}
use Rattle.turns.specs.Demands.{settled_is_serial, open_fits, open_finals}
use Rattle.turns.specs.declared.many.Taken.{Taken}
use Rattle.turns.specs.declared.many.WrongLength.{WrongLength as NotTaken}
use Rattle.turns.specs.declared.open.Opened.{Opened}
use Rattle.turns.specs.declared.open.OpenRefusal.{OpenRefusal}
use Rattle.turns.specs.declared.open.OpenRefusal.TheVariants.{WrongTable as WrongStart, Paper as WrongPaper}
use Rattle.turns.specs.declared.settled.SettleRefusal.{SettleRefusal}
use Rattle.turns.specs.declared.settled.SettleRefusal.TheVariants.{WrongTable as WrongLent, Misfit}
use Rattle.demands.specs.Numbered.{refused_numbered}
use Rattle.demands.specs.Finish.{refused_by, ran, opened, outcome, opening_as, numbers_of, numbers, first_run, afterwards, Finishes}
use Rattle.demands.specs.declared.finish.FinishRefusal.{FinishRefusal}
use Rattle.demands.specs.declared.finish.FinishRefusal.TheVariants.{WrongTable, WrongLength}

-- ---- the whole
refused_opened : (n f p : ℕ) (ts words : List ℕ) → opened (refused n f p) ts words ≡ refused_by n f p
unfolding opened
refused_opened n f p ts words = refl

module _ (start paper ts words table : List ℕ) where
  -- a refusal leaves everything as it was
  refusing : (r : Result ℕ FinishRefusal) (n f p : ℕ) → outcome start paper ts words table ≡ refused_by n f p → numbers_of r ≡ (n, f, p) → f_of r ≡ 0 → Finishes start paper ts words table r words table
  unfolding numbers afterwards
  refusing r n f p e a z = record { answer = rw e a; count = rw e z; bytes = rw e refl; settled = rw e refl }

  pub finish_table : (length table ≡ 256 → ⊥) → Finishes start paper ts words table (Err WrongTable) words table
  unfolding outcome numbers_of f_of
  finish_table l = refusing (Err WrongTable) 12 0 0 (wrong (not (eqb (length start) CELLS))) refl refl
    where
      wrong : (t : Bool) → cond (t || not (eqb (length table) CELLS)) (refused_by 12 0 0) (opened (paper_answer paper) ts words) ≡ refused_by 12 0 0
      wrong true = refl
      wrong false = rw (ne_eqb (length table) CELLS l) refl

  module _ (whole : length table ≡ 256) where
    open_wrong : (length start ≡ CELLS → ⊥) → open_answer start paper ≡ (12, 0, 0)
    unfolding open_answer
    open_wrong l = rw (ne_eqb (length start) CELLS l) refl

    open_told : length start ≡ CELLS → open_answer start paper ≡ refusal (paper_answer paper)
    unfolding open_answer
    open_told l = rw (eq-eqb (length start) CELLS l) refl

    outcome_wrong : (length start ≡ CELLS → ⊥) → outcome start paper ts words table ≡ refused_by 12 0 0
    unfolding outcome
    outcome_wrong l = rw (ne_eqb (length start) CELLS l) refl

    outcome_opened : length start ≡ CELLS → outcome start paper ts words table ≡ opened (paper_answer paper) ts words
    unfolding outcome
    outcome_opened l = rw (eq-eqb (length start) CELLS l, eq-eqb (length table) CELLS whole) refl

    -- an opening that is refused is refused here by the same number, field and place
    refused_outcome : (x : ℕ × ℕ × ℕ) → open_answer start paper ≡ x → 0 < x.0 → outcome start paper ts words table ≡ refused_by x.0 x.1 x.2
    refused_outcome x e pos = sized (ℕ_discrete (length start) CELLS)
      where
        same : (y : ℕ × ℕ × ℕ) → y ≡ x → refused_by y.0 y.1 y.2 ≡ refused_by x.0 x.1 x.2
        same y q = ap (λ (z : ℕ × ℕ × ℕ). refused_by z.0 z.1 z.2) q

        answered : (a : Answer) → refusal a ≡ x → opened a ts words ≡ refused_by x.0 x.1 x.2
        answered (jobs js) q = absurd (let z : ◌≡◌ {A = ℕ} 0 x.0 = ap (λ (y : ℕ × ℕ × ℕ). y.0) q in omega arith)
        answered (refused n f p) q = refused_opened n f p ts words ∙ same (n, f, p) q

        sized : Dec (length start ≡ CELLS) → outcome start paper ts words table ≡ refused_by x.0 x.1 x.2
        sized (yes l) = outcome_opened l ∙ answered (paper_answer paper) (sym (open_told l) ∙ e)
        sized (no l) = outcome_wrong l ∙ same (12, 0, 0) (sym (open_wrong l) ∙ e)

    module _ (o : Opened) (opens : Opens start paper o) where
      pub finish_refused : (e : OpenRefusal) (r : Result ℕ FinishRefusal) → o.answer ≡ Err e → IsErrAnd r (λ x. x ≡ opening_as e) → Finishes start paper ts words table r words table
      unfolding opening_of numbers_of f_of
      finish_refused e (Ok f) q h = absurd h
      finish_refused WrongStart (Err x) q h =
          refusing (Err x) 12 0 0 (refused_outcome (12, 0, 0) (sym opens.answer ∙ ap opening_of q) (omega arith)) (rw h refl) refl
      finish_refused (WrongPaper e) (Err x) q h =
          refusing (Err x) (number e.fault) e.field.0 e.place.0
          (refused_outcome (number e.fault, e.field.0, e.place.0) (sym opens.answer ∙ ap opening_of q) (number_some e.fault)) (rw h refl) refl

      -- an opening that is not refused has jobs
      opened_jobs : o.answer ≡ Ok tt → (js : List (List Instruction)) × (paper_answer paper ≡ jobs js) × (length start ≡ CELLS)
      unfolding opening_of
      opened_jobs e = sized (ℕ_discrete (length start) CELLS)
        where
          said : open_answer start paper ≡ (0, 0, 0)
          said = sym opens.answer ∙ ap opening_of e

          answered : (a : Answer) → paper_answer paper ≡ a → length start ≡ CELLS → (js : List (List Instruction)) × (paper_answer paper ≡ jobs js) × (length start ≡ CELLS)
          answered (jobs js) q l = (js, q, l)
          answered (refused n f p) q l =
              absurd
              (let z : refusal (paper_answer paper) ≡ (0, 0, 0) = sym (open_told l) ∙ said in
              let y : ◌≡◌ {A = ℕ} n 0 = ap (λ (x : ℕ × ℕ × ℕ). x.0) (ap refusal (sym q) ∙ z) in
              omega (arith, refused_numbered paper n f p q))

          sized : Dec (length start ≡ CELLS) → (js : List (List Instruction)) × (paper_answer paper ≡ jobs js) × (length start ≡ CELLS)
          sized (yes l) = answered (paper_answer paper) refl l
          sized (no l) = absurd (let y : ◌≡◌ {A = ℕ} 12 0 = ap (λ (x : ℕ × ℕ × ℕ). x.0) (sym (open_wrong l) ∙ said) in omega arith)

      module _ (ran_open : o.answer ≡ Ok tt) (t : Taken) (words' : List ℕ) (takes : Takes o.block ts words t words') where
        pub finish_short : (e : NotTaken) (r : Result ℕ FinishRefusal) → t.answer ≡ Err e → IsErrAnd r (λ x. x ≡ WrongLength) → Finishes start paper ts words table r words' table
        unfolding taking_of if_long opened numbers_of f_of
        finish_short e (Ok f) q h = absurd h
        finish_short e (Err x) q h = go (ℕ_discrete (length words) (length ts))
          where
            go : Dec (length words ≡ length ts) → Finishes start paper ts words table (Err x) words' table
            go (yes l) = absurd (let z : ◌≡◌ {A = ℕ} 15 0 = ap taking_of (sym q) ∙ takes.answer ∙ rw (eq-eqb (length words) (length ts) l) refl in omega arith)
            go (no l) =
                let j = opened_jobs ran_open in
                let same : words' ≡ words = takes.words ∙ rw (ne_eqb (length words) (length ts) l) refl in
                rw same (refusing (Err x) 15 0 0 (outcome_opened j.2 ∙ rw (j.1, ne_eqb (length words) (length ts) l) refl) (rw h refl) refl)

        module _ (ran_turns : t.answer ≡ Ok tt) where
          as_long : length words ≡ length ts
          unfolding taking_of if_long
          as_long = go (ℕ_discrete (length words) (length ts))
            where
              go : Dec (length words ≡ length ts) → length words ≡ length ts
              go (yes q) = q
              go (no q) = absurd (let z : ◌≡◌ {A = ℕ} 0 15 = ap taking_of (sym ran_turns) ∙ takes.answer ∙ rw (ne_eqb (length words) (length ts) q) refl in omega arith)

          block_is : block_of t.block ≡ E.turns limits box (open_block start paper) ts
          unfolding if_long
          block_is = takes.block ∙ rw (eq-eqb (length words) (length ts) as_long, opens.block) refl

          fits_still : E.block_fits limits box (block_of t.block) ≡ true
          fits_still = rw block_is (turns_fit limits box box_promise (open_block start paper) ts (open_fits start paper))

          module _ (s : Result ℕ SettleRefusal) (table' : List ℕ) (settles : S.Settles t.block table s table') where
            pub finish_settles : IsOk s
            unfolding S.refusal_of S.settled_answer S.unless_unsettled
            finish_settles = go s settles.answer
              where
                fine : S.settled_answer t.block table ≡ 0
                fine = rw (whole, fits_still) refl

                go : (x : Result ℕ SettleRefusal) → S.refusal_of x ≡ S.settled_answer t.block table → IsOk x
                go (Ok f) e = refl
                go (Err WrongLent) e = absurd (let z : ◌≡◌ {A = ℕ} 12 0 = e ∙ fine in omega arith)
                go (Err Misfit) e = absurd (let z : ◌≡◌ {A = ℕ} 20 0 = e ∙ fine in omega arith)

            pub finish_ran : (f : ℕ) → s ≡ Ok f → Finishes start paper ts words table (Ok f) words' table'
            unfolding if_long opened numbers_of numbers f_of afterwards first_run S.settled_count S.settled_table S.unless_unsettled
            finish_ran f e =
                let j = opened_jobs ran_open in
                let b = open_block start paper in
                let t = eq-eqb (length words) (length ts) as_long in
                let count : f ≡ E.finals limits box (E.turns limits box b ts).jobs = ap f_of (sym e) ∙ settles.count ∙ rw (whole, fits_still, block_is) refl in
                let is_ran : outcome start paper ts words table ≡ ran j.0 = outcome_opened j.2 ∙ rw (j.1, t) refl in
                record {
                  answer = rw is_ran refl;
                  count = rw is_ran (omega (arith, count, finals_turns limits box b ts, open_finals start paper));
                  bytes = takes.words ∙ rw (t, opens.block, is_ran) refl;
                  settled = settles.table ∙ rw (whole, fits_still, block_is, is_ran, count) (settled_is_serial start paper j.0 j.2 j.1 ts);
                }
