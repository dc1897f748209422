-- Demand 2: after an opening and any list of tickets the settled table is the serial run of the first f jobs, f the number of final jobs,
-- which is the number of turns whose word was final.
use Rattle.std.specs.Prelude.{◌≡◌, refl}
use Rattle.std.proofs.Math.Path.{ap, fun_ext}
use mathlib.Core.List.{List, [], ◌∷◌, map}
use Prim.Native.Nat.{ℕ}
use Rattle.std.proofs.Common.{arith}
use Rattle.std.proofs.Math.ListN.{get_or}
use Rattle.theory.specs.Promise.{Machine, Promise}
use Rattle.theory.specs.Engine.{Block, Limits, job_at, cell_at, turns, opened, finals, fresh, settled_cell, up_to, settled}
use Rattle.theory.specs.Serial.{serial}
use Rattle.theory.proofs.Blocks.{Sound, reached_sound}
use Rattle.theory.specs.Histories.{final_turns, serially}
use Rattle.theory.proofs.Finals.{first_final, finals_turns}
use Rattle.theory.proofs.FinalCells.{final_cells}

module _ (L : Limits) (M : Machine) where
  open M use {S, nowhere}

  module _ (P : Promise L.cells M) (table : List ℕ) (starts : List S) where
    pub sound_settled : (b : Block S) → Sound L M table starts b → settled L M b ≡ serially L M table starts (finals L M b.jobs)
    unfolding settled
    sound_settled b s = ap (λ (g : ℕ → ℕ). map g (up_to L M L.cells)) (fun_ext cell)
      where
        cell : (c : ℕ) → settled_cell L M b c ≡ serial M (λ c. get_or table c 0) (λ k. get_or starts k nowhere) (finals L M b.jobs) c
        cell c =
            rw (← s.same_table)
            (final_cells M L.cells P (cell_at L M b) (λ k. get_or starts k nowhere) (job_at L M b) s.invariant (finals L M b.jobs) (first_final L M table starts b s) c)

    pub settled_is_serial : (ts : List ℕ) →
        let b = turns L M (opened L M table starts) ts in
        settled L M b ≡ map (serial M (λ c. get_or table c 0) (λ k. get_or starts k nowhere) (finals L M b.jobs)) (up_to L M L.cells)
    settled_is_serial ts = sound_settled (turns L M (opened L M table starts) ts) (reached_sound L M table starts ts)

  no_finals : (starts : List S) → finals L M (map fresh starts) ≡ 0
  no_finals [] = refl
  no_finals (s ∷ starts) = omega (arith, no_finals starts)

  pub f_counts_finals : (table : List ℕ) (starts : List S) (ts : List ℕ) →
      finals L M (turns L M (opened L M table starts) ts).jobs ≡ final_turns L M (opened L M table starts) ts
  f_counts_finals table starts ts = omega (arith, finals_turns L M (opened L M table starts) ts, no_finals starts)
