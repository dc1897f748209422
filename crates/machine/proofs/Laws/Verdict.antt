-- The job's verdict: a loop's invariant says that what is found from here on is what is found from the start.
use Rattle.std.proofs.Common.{◌≡◌, ℕ, zero, suc, ◌+◌, ◌-◌, ◌<◌, ◌≤◌, Bool, true, false, cond, eqb, List, length, get_or, set, replicate, Result, Ok, Err, refl, ap, ◌∙◌, add-one, arith}
use native.Mathlib.Nat.{sub-zero}
use Rattle.machine.specs.Able.{jump_place}
use Rattle.machine.specs.Verdict.{Finding, sound, scan, at, count, form_of, form_at, end_of, lead, brought, entries_of, entries_at}
use Rattle.machine.specs.Passing.{scan_sound, form_sound, end_sound}
use Rattle.machine.specs.Fitting.{Fitting}
use Rattle.machine.specs.View.{finding_of}
use Rattle.machine.proofs.Laws.Tests.{passing}
use Rattle.machine.specs.declared.instruction.Instruction.{Instruction}
use Rattle.machine.specs.declared.verdict.Met.{Met}
use Rattle.machine.specs.declared.verdict.Met.TheVariants.{Nobody, Height}
use Rattle.machine.specs.declared.verdict.Flaw.{Flaw}

-- ---- place by place
module _ (f : ℕ → Finding) (n p : ℕ) (R : Finding) where
  less : p < n → suc (n - suc p) ≡ n - p
  less l = omega arith

  pub scan_stop : (v : Result (Unit {0}) Flaw) (x : Flaw) → p < n → finding_of v ≡ f p → v ≡ Err x → scan f p (n - p) ≡ R → finding_of v ≡ R
  unfolding scan finding_of
  scan_stop v x l e t r = here (n - suc p) ∙ ap (scan f p) (less l) ∙ r
    where
      here : (k : ℕ) → finding_of v ≡ scan f p (suc k)
      here k = rw (← e, t) refl

  pub scan_on : (v : Result (Unit {0}) Flaw) → p < n → finding_of v ≡ f p → v ≡ Ok tt → scan f p (n - p) ≡ R → scan f (p + 1) (n - (p + 1)) ≡ R
  unfolding scan finding_of
  scan_on v l e t r = rw add-one (here (n - suc p) ∙ ap (scan f p) (less l) ∙ r)
    where
      here : (k : ℕ) → scan f (suc p) k ≡ scan f p (suc k)
      here k = rw (← e, t) refl

  pub scan_end : n ≤ p → scan f p (n - p) ≡ R → finding_of passing ≡ R
  unfolding scan finding_of
  scan_end l r = none (n - p) (omega arith) ∙ r
    where
      none : (k : ℕ) → k ≤ 0 → sound ≡ scan f p k
      none zero l = refl
      none (suc k) l = absurd (omega arith)

pub scan_start : (f : ℕ → Finding) (n : ℕ) → scan f 0 (n - 0) ≡ scan f 0 n
scan_start f n = simp sub-zero

-- ---- a job's instructions, by place
module _ (is : List Instruction) (p : ℕ) (l : p < length is) where
  -- 5, 6, 11
  module _ (reads writes : ℕ) (er : reads ≡ count is 10 p) (ew : writes ≡ count is 11 p)
      (v : Result (Unit {0}) Flaw) (ev : finding_of v ≡ form_of 8 (length is) p (at is p) reads writes) where
    form_at_lem : finding_of v ≡ form_at 8 is p
    unfolding form_at
    form_at_lem = simp (← er, ← ew) ev

    pub forms_stop : (x : Flaw) (R : Finding) → v ≡ Err x → scan (form_at 8 is) p (length is - p) ≡ R → finding_of v ≡ R
    forms_stop x R t r = scan_stop (form_at 8 is) (length is) p R v x l form_at_lem t r

    pub forms_on : (R : Finding) → v ≡ Ok tt → scan (form_at 8 is) p (length is - p) ≡ R → scan (form_at 8 is) (p + 1) (length is - (p + 1)) ≡ R
    forms_on R t r = scan_on (form_at 8 is) (length is) p R v l form_at_lem t r

  pub count_on : (c k r : ℕ) → k ≡ count is c p → r ≡ cond (eqb (at is p).code c) 1 0 → k + r ≡ count is c (p + 1)
  unfolding count
  count_on c k r a e = rw (add-one, a, e) refl

  -- 8, 10, 9
  module _ (ms : List Met) (em : ms ≡ brought 64 is p) where
    module _ (v : Result (Unit {0}) Flaw) (ev : finding_of v ≡ entries_of 16 (at is p) p (get_or ms p Nobody)) where
      entries_at_lem : finding_of v ≡ entries_at 16 64 is p
      unfolding entries_at
      entries_at_lem = simp (← em) ev

      pub heights_stop : (x : Flaw) (R : Finding) → v ≡ Err x → scan (entries_at 16 64 is) p (length is - p) ≡ R → finding_of v ≡ R
      heights_stop x R t r = scan_stop (entries_at 16 64 is) (length is) p R v x l entries_at_lem t r

      pub heights_on : (R : Finding) → v ≡ Ok tt → scan (entries_at 16 64 is) p (length is - p) ≡ R → scan (entries_at 16 64 is) (p + 1) (length is - (p + 1)) ≡ R
      heights_on R t r = scan_on (entries_at 16 64 is) (length is) p R v l entries_at_lem t r

    pub brought_on : (r : List Met) → r ≡ lead (at is p) p (get_or ms p Nobody) ms → r ≡ brought 64 is (p + 1)
    unfolding brought
    brought_on r e = rw (add-one, ← em) e

  pub fitting_at : length is ≤ 64 → scan (form_at 8 is) 0 (length is) ≡ sound → end_of is ≡ sound → Fitting p (at is p)
  fitting_at most e d =
      let f = form_sound 8 is p (scan_sound (form_at 8 is) 0 (length is) e p (omega arith) (omega arith)) in
      record {
        on = λ t. omega (arith, end_sound is d (omega arith) p l t);
        jump = λ t. omega (arith, (jump_place (length is) p (at is p) f.operand t).1);
      }

pub count_start : (is : List Instruction) (c : ℕ) → 0 ≡ count is c 0
unfolding count
count_start is c = refl

pub bit_few : (b : Bool) (r : ℕ) → r ≡ cond b 1 0 → r ≤ 1
bit_few true r e = omega arith
bit_few false r e = omega arith

pub ruleset forms_laws = (scan_start, count_start, scan_end, forms_stop, forms_on, count_on, bit_few)

pub brought_start : (is : List Instruction) → set (replicate 64 Nobody) 0 (Height 0) ≡ brought 64 is 0
unfolding brought
brought_start is = refl

pub ruleset heights_laws = (scan_start, brought_start, scan_end, heights_stop, heights_on, brought_on, fitting_at)
