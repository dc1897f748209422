-- Demand 3, second half: a job all of whose predecessors are final is final after left(start) + 1 more turns of its own, wherever other tickets fall between.
-- It needs no more turns of its own than that, each of them leaves it fewer to need, and no other turn touches it.
use Rattle.std.specs.Prelude.{◌≡◌, List, ℕ, suc, ◌+◌, ◌≤◌, ◌<◌, length, get_or}
use Rattle.std.proofs.Common.{arith}
use Rattle.theory.specs.Promise.{Machine, Promise, Checked, Passed}
use Rattle.theory.specs.Engine.{Block, Limits, final, job_at, cell_at, turns, opened}
use Rattle.theory.specs.Every.{Every, every_at}
use Rattle.theory.proofs.Invariant.{all_final_of}
use Rattle.theory.proofs.Blocks.{Sound, reached_sound}
use Rattle.theory.specs.Histories.{occurs}
use Rattle.theory.proofs.TurnsNeeded.{needed_bound, final_after}
use Rattle.theory.proofs.NeverStuck.{reached_fits}

module _ (L : Limits) (M : Machine) (P : Promise L.cells M) (K : Checked M) (table : List ℕ) (starts : List M.S) where
  open M use {S, left, nowhere}

  pub final_within : length starts ≤ L.most_jobs → Every (Passed M K L.few) starts → (ts more : List ℕ) (i : ℕ) →
      let b = turns L M (opened L M table starts) ts in
      i < length starts → ((k : ℕ) → k < i → (job_at L M b k).status ≡ final) → left (get_or starts i nowhere) + 1 ≤ occurs (suc i) more → (job_at L M (turns L M b more) i).status ≡ final
  final_within few_jobs passed ts more i l f h =
      final_after L M P K table starts i l p b s (reached_fits L M P K table starts few_jobs passed ts) (all_final_of (job_at L M b) i f) more
      (omega (arith, needed_bound M L.few L.cells P K (cell_at L M b) (λ k. get_or starts k nowhere) (job_at L M b) i p (s.invariant i)))
    where
      b : Block S
      b = turns L M (opened L M table starts) ts

      s : Sound L M table starts b
      s = reached_sound L M table starts ts

      p : Passed M K L.few (get_or starts i nowhere)
      p = every_at (Passed M K L.few) starts i nowhere l passed
