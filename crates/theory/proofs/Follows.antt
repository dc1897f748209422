-- Document 01, "Follows, and is to be proved": a job's state and journal are those of a run from its start on the values in its list of reads, marked or not,
-- however often it went back. The invariant has such a run; a READ of it that lists a read finds its value in the list from then on.
use Rattle.std.specs.Prelude.{◌≡◌, refl, Bool, ℕ, suc, eqb, get_or, None, Some}
use Rattle.std.proofs.Math.Bool.{true, false, cond}
use mathlib.Core.List.{List, [], ◌∷◌, ◌++◌}
use Rattle.std.proofs.Common.{eq-eqb}
use Rattle.theory.specs.Promise.{Machine}
use Rattle.theory.specs.Engine.{Entry, Read, Limits, listed_value, job_at, turns, opened}
use Rattle.theory.specs.Follows.{at, run_on}
use Rattle.theory.proofs.Runs.{Ran, begin, by_nothing, by_write, by_own, by_listed, by_found}
use Rattle.theory.proofs.Blocks.{reached_sound}

module _ (M : Machine) where
  open M use {S, act, given}

  -- ---- a list with the same values and perhaps more
  Holds : List (Read S) → List (Read S) → Type 0
  Holds rs more = (c v : ℕ) → listed_value rs c ≡ Some v → listed_value more c ≡ Some v

  listed_left : (rs : List (Read S)) (r : Read S) → Holds rs (rs ++ (r ∷ []))
  unfolding Holds
  listed_left [] r c v e = cc
  listed_left (x ∷ rs) r c v e = go (eqb x.cell c) e (listed_left rs r c v)
    where
      go : (t : Bool) → cond t (Some x.value) (listed_value rs c) ≡ Some v → (listed_value rs c ≡ Some v → listed_value (rs ++ (r ∷ [])) c ≡ Some v) →
          cond t (Some x.value) (listed_value (rs ++ (r ∷ [])) c) ≡ Some v
      go true e ih = e
      go false e ih = ih e

  listed_last : (rs : List (Read S)) (r : Read S) → listed_value rs r.cell ≡ None → listed_value (rs ++ (r ∷ [])) r.cell ≡ Some r.value
  listed_last [] r e = rw (eq-eqb r.cell r.cell refl) refl
  listed_last (x ∷ rs) r e = go (eqb x.cell r.cell) e (listed_last rs r)
    where
      go : (t : Bool) → cond t (Some x.value) (listed_value rs r.cell) ≡ None → (listed_value rs r.cell ≡ None → listed_value (rs ++ (r ∷ [])) r.cell ≡ Some r.value) →
          cond t (Some x.value) (listed_value (rs ++ (r ∷ [])) r.cell) ≡ Some r.value
      go true e ih = cc
      go false e ih = ih e

  -- a job's run, on any list that has its reads' values
  runs_on : {s₀ s : S} {rs : List (Read S)} {j : List Entry} → Ran M s₀ rs j s → (more : List (Read S)) → Holds rs more → (n : ℕ) × (run_on M more s₀ n ≡ Some (at M s j))
  unfolding run_on Holds
  runs_on begin more h = (0, refl)
  runs_on (by_nothing p e) more h = let x = runs_on p more h in (suc x.0, rw (x.1, e) refl)
  runs_on (by_write p e) more h = let x = runs_on p more h in (suc x.0, rw (x.1, e) refl)
  runs_on (by_own p e q) more h = let x = runs_on p more h in (suc x.0, rw (x.1, e, q) refl)
  runs_on (by_listed {c = c} {v = v} p e q w) more h = let x = runs_on p more h in (suc x.0, rw (x.1, e, q, h c v w) refl)
  runs_on (by_found {rs = rs} r p e q w k) more h =
      let x = runs_on p more (λ c v y. h c v (listed_left rs r c v y)) in
      (suc x.0, rw (x.1, e, q, h r.cell r.value (listed_last rs r w)) refl)

-- after any list of turns
pub follows : (L : Limits) (M : Machine) (table : List ℕ) (starts : List M.S) (ts : List ℕ) (i : ℕ) →
    let b = job_at L M (turns L M (opened L M table starts) ts) i in
    (n : ℕ) × (run_on M b.reads (get_or starts i M.nowhere) n ≡ Some (record { state = b.state; journal = b.journal }))
follows L M table starts ts i = unfold Holds in runs_on M ((reached_sound L M table starts ts).invariant i).ran _ (λ c v e. e)
