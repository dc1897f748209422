-- One instruction: what is ready passed the two tests, and its three parts are the state after it.
use Rattle.std.proofs.Common.{◌≡◌, ℕ, ◌<◌, Bool, true, false, ◌&&◌, sym, refl, ap, ◌∙◌}
use Rattle.machine.specs.Machine.{stack_after, place_after, moved, placed, suffices, ready, asked, act, stepped}
use Rattle.machine.specs.Able.{Able, able}
use Rattle.machine.specs.View.{stack_of, state_of, act_of, Steps, length_tops}
use Rattle.machine.specs.declared.counts.Place.{Place}
use Rattle.machine.specs.declared.instruction.Instruction.{Instruction}
use Rattle.machine.specs.declared.job.Stack.{Stack}
use Rattle.machine.specs.declared.job.State.{State as CodeState}
use Rattle.machine.specs.declared.step.Act.{Act as CodeAct}
use Rattle.machine.specs.declared.step.Act.TheVariants.{Stuck}

-- ---- is it ready
module _ (size : ℕ) (i : Instruction) (s : CodeState) (a b : Bool) (ea : a ≡ placed size i s.place.0) (eb : b ≡ suffices 16 i s.stack.height) where
  ready_is : a && b ≡ ready 16 size i (state_of s)
  unfolding ready
  ready_is = simp (ea, eb, length_tops s.stack.height s.stack.entries)

  pub ready_unplaced : a ≡ false → ready 16 size i (state_of s) ≡ false
  ready_unplaced t = sym ready_is ∙ rw t refl

  pub ready_short : a ≡ true → b ≡ false → ready 16 size i (state_of s) ≡ false
  ready_short t u = sym ready_is ∙ rw (t, u) refl

  pub ready_both : a ≡ true → b ≡ true → ready 16 size i (state_of s) ≡ true
  ready_both t u = sym ready_is ∙ rw (t, u) refl

  pub ready_able : size < 256 → a ≡ true → b ≡ true → Able i (state_of s)
  ready_able l t u = able size i (state_of s) l (ready_both t u)

pub ruleset ready_laws = (ready_unplaced, ready_short, ready_both, ready_able)

-- ---- the whole instruction
module _ (size : ℕ) (i : Instruction) (s : CodeState) where
  pub step_stuck : ready 16 size i (state_of s) ≡ false → Steps 16 size i (state_of s) Stuck (state_of s)
  unfolding act stepped
  step_stuck e = record { asks = rw e refl; leaves = rw e refl }

  pub step_done : (j : Instruction) (r : CodeState) → j ≡ i → r ≡ s → ready 16 size i (state_of s) ≡ true → (a : CodeAct) (p : Place) (t : Stack)
      → act_of a (moved j 0 (state_of r)) ≡ asked j (state_of r) → p.0 ≡ place_after j (state_of r) → stack_of t ≡ stack_after j 0 (stack_of r.stack)
      → Steps 16 size i (state_of s) a (record { place = p.0; stack = stack_of t })
  unfolding act stepped moved
  step_done j r u v e a p t ea ep et =
      let m : record { place = p.0; stack = stack_of t } ≡ moved j 0 (state_of r) = (λ k. record { place = ep k; stack = et k }) in
      let n : record { place = p.0; stack = stack_of t } ≡ moved i 0 (state_of s) = rw (u, v) at m in
      let f : act_of a (moved i 0 (state_of s)) ≡ asked i (state_of s) = rw (u, v) at ea in
      record { asks = rw e (ap (act_of a) n ∙ f); leaves = rw e n }
