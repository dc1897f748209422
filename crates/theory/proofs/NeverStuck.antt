-- Demand 3, first half: after the opening of a block whose jobs passed, and any list of tickets, no turn of any ticket answers 20.
-- The block fits and goes on fitting; and a job that passed is never stuck and never without room for a read or a write.
use Rattle.std.specs.Prelude.{◌≡◌, refl, ◌≢◌, true, false, List, ℕ, ◌≤◌, length, get_or}
use Rattle.std.proofs.Common.{arith}
use Rattle.theory.specs.Word as W
use Rattle.theory.specs.Promise.{Machine, Promise, Checked, Passed}
use Rattle.theory.specs.Engine.{Block, Limits, block_fits, job_at, cell_at, Turned, turn, turns, opened}
use Rattle.theory.specs.Every.{Every, every_at, every_imp}
use Rattle.theory.proofs.Blocks.{Outcome, no_such_job, misfit, taken, outcome, Sound, reached_sound}
use Rattle.theory.proofs.Sizes.{turns_fit, opened_fits}
use Rattle.theory.proofs.PassedRuns.{is_stuck, not_the_word, move_not_stuck}

module _ (L : Limits) (M : Machine) (P : Promise L.cells M) (K : Checked M) (table : List ℕ) (starts : List M.S) where
  open M use {S, fits, nowhere}

  pub reached_fits : length starts ≤ L.most_jobs → Every (Passed M K L.few) starts → (ts : List ℕ) → block_fits L M (turns L M (opened L M table starts) ts) ≡ true
  reached_fits few_jobs passed ts =
      turns_fit L M P (opened L M table starts) ts
      (opened_fits L M table starts few_jobs (every_imp (Passed M K L.few) (λ s. fits s ≡ true) (λ s p. K.ok_fits s p.ok) starts passed))

  pub checked_never_stuck : length starts ≤ L.most_jobs → Every (Passed M K L.few) starts → (ts : List ℕ) (t : ℕ) → (turn L M (turns L M (opened L M table starts) ts) t).word ≢ W.stuck
  checked_never_stuck few_jobs passed ts t = not_the_word (turn L M b t).word (go (turn L M b t) (outcome L M b t))
    where
      b : Block S
      b = turns L M (opened L M table starts) ts

      s : Sound L M table starts b
      s = reached_sound L M table starts ts

      go : (u : Turned L M) → Outcome L M b t u → is_stuck u.word ≡ false
      go u (no_such_job e) = refl
      go u (misfit e) = cc (reached_fits few_jobs passed ts, e)
      go u (taken i e h f) =
          move_not_stuck L.few M L.cells P K (cell_at L M b) (λ k. get_or starts k nowhere) (job_at L M b) i
          (every_at (Passed M K L.few) starts i nowhere (omega (arith, s.same_number)) passed) (s.invariant i)
