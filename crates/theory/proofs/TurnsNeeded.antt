-- The turns of its own that a job still needs, once all lower jobs are final: what is left and one to become final; if it is marked, what is left at the checkpoint
-- and one more to go back. Each of its own turns leaves fewer, and a turn of another ticket leaves the job as it is; and it is never more than left(start) + 1.
use Rattle.std.specs.Prelude.{◌≡◌, ◌≢◌, ◌⊎◌, true, length, get_or, Option, None, Some}
use Rattle.std.proofs.Math.Path.{refl}
use Rattle.std.proofs.Common.{ap, ◌∙◌, inl, inr, lt-ltb, ltb-true, eq-eqb, ne_eqb}
use mathlib.Core.List.{List, [], ◌∷◌}
use Prim.Native.Nat.{ℕ, suc, pred, ◌≤◌, ◌<◌}
use native.Mathlib.Omega.{arith}
use Rattle.std.proofs.Math.Decide.{ℕ_discrete, dec_lt}
use Rattle.theory.specs.Promise.{Act, nothing, read, write, stop, abandon, stuck, Machine, Promise, Checked, Passed}
use Rattle.theory.specs.Engine.{Job, Block, Limits, Status, running, ended, final, last_value, listed_value, find, all_final, here, checkpoint_at, read_step, instructed, ruled, move, block_fits, job_at, cell_at, Turned, move_at, turn, turns}
use Rattle.theory.specs.Histories.{occurs}
use Rattle.theory.proofs.Runs.{ran_earlier}
use Rattle.theory.proofs.Invariant.{Good, all_final_at, all_final_of, change, change_at, change_low}
use Rattle.theory.proofs.Moves.{move_right}
use Rattle.theory.proofs.Blocks.{change_same, Outcome, no_such_job, misfit, taken, outcome, move_jobs, Sound, turn_sound, turn_stays_final}
use Rattle.theory.proofs.Sizes.{turn_fits}
use Rattle.theory.proofs.PassedRuns.{passed_ok, passed_not_stuck, passed_left, room_to_read, room_to_write, read_later}

module _ (M : Machine) where
  open M use {S, act, left}

  abbrev needed_by : Job S → Status → Option ℕ → ℕ
  needed_by b final o = 0
  needed_by b ended None = 1
  needed_by b running None = suc (left b.state)
  needed_by b ended (Some m) = suc (suc (left (checkpoint_at b m).state))
  needed_by b running (Some m) = suc (suc (left (checkpoint_at b m).state))

  unfoldable pub needed : Job S → ℕ
  needed b = needed_by b b.status b.mark

  needed_none : (b : Job S) → needed b ≤ 0 → b.status ≡ final
  unfolding needed
  needed_none b h = go b.status b.mark h
    where
      go : (s : Status) (o : Option ℕ) → needed_by b s o ≤ 0 → s ≡ final
      go final o h = refl
      go ended None h = absurd (omega arith)
      go ended (Some m) h = absurd (omega arith)
      go running None h = absurd (omega arith)
      go running (Some m) h = absurd (omega arith)

  module _ (few cells : ℕ) (P : Promise cells M) (K : Checked M) (table : ℕ → ℕ) (start : ℕ → S)
      (st : ℕ → Job S) (i : ℕ) (p : Passed M K few (start i)) (g : Good M table start st i (st i)) where
    abbrev b : Job S
    b = st i

    pub needed_bound : needed b ≤ suc (left (start i))
    unfolding needed
    needed_bound = go b.status b.mark refl
      where
        back : (m : ℕ) → b.mark ≡ Some m → left (checkpoint_at b m).state < left (start i)
        back m e =
            let x = ran_earlier M g.ran m (here b) (ltb-true m (length b.reads) (rw e at g.marked)) in
            read_later M cells P K few (start i) p x.ran x.reading.0 x.reading.1

        go : (s : Status) (o : Option ℕ) → b.mark ≡ o → needed_by b s o ≤ suc (left (start i))
        go final o e = omega arith
        go ended None e = omega arith
        go running None e = omega (arith, passed_left M cells P K few (start i) p g.ran)
        go ended (Some m) e = omega (arith, back m e)
        go running (Some m) e = omega (arith, back m e)

    move_needs_less : all_final st i ≡ true → needed (move few M table st i).job ≤ pred (needed b)
    unfolding move needed
    move_needs_less f = go b.status refl b.mark refl
      where
        reads : (c : ℕ) → act b.state ≡ read c → b.status ≡ running → b.mark ≡ None → (o o' : Option ℕ) →
            needed (read_step few M table b c o o' (find table st c i)).job ≤ left b.state
        reads c e r m (Some v) o' = rw (r, m) (P.after_read b.state c v e)
        reads c e r m None (Some v) = rw (r, m) (P.after_read b.state c v e)
        reads c e r m None None = rw (lt-ltb (length b.reads) few (room_to_read M cells P K few (start i) p g.ran c e), r, m) (P.after_read b.state c _ e)

        acts : (a : Act S) → act b.state ≡ a → b.status ≡ running → b.mark ≡ None → needed (instructed few M table st i b a).job ≤ left b.state
        acts (nothing s) e r m = rw (r, m) (P.after_nothing b.state s e)
        acts (read c) e r m = reads c e r m (last_value b.journal c) (listed_value b.reads c)
        acts (write c v s) e r m = rw (lt-ltb (length b.journal) few (room_to_write M cells P K few (start i) p g.ran c v s e), r, m) (P.after_write b.state s c v e)
        acts stop e r m = rw m (K.some_left b.state (passed_ok M cells P K few (start i) p g.ran))
        acts abandon e r m = rw m (K.some_left b.state (passed_ok M cells P K few (start i) p g.ran))
        acts stuck e r m = absurd (passed_not_stuck M cells P K few (start i) p g.ran e)

        go : (s : Status) → b.status ≡ s → (o : Option ℕ) → b.mark ≡ o → needed (ruled few M table st i b s o).job ≤ pred (needed_by b s o)
        go final e o q = rw e (omega arith)
        go running e None q = let x = acts (act b.state) refl e q in omega arith
        go ended e None q = rw f (omega arith)
        go running e (Some m) q = omega arith
        go ended e (Some m) q = omega arith

-- ---- in a block
module _ (L : Limits) (M : Machine) (P : Promise L.cells M) (K : Checked M) (table : List ℕ) (starts : List M.S) (i : ℕ) (l : i < length starts)
    (p : Passed M K L.few (get_or starts i M.nowhere)) where
  open M use {S, nowhere}

  module _ (b : Block S) (s : Sound L M table starts b) (fit : block_fits L M b ≡ true) (f : all_final (job_at L M b) i ≡ true) where
    -- a turn of another ticket
    other : (k : ℕ) → k ≢ i → change (job_at L M b) k (move_at L M b k).job i ≡ job_at L M b i
    other k n = go (dec_lt i k)
      where
        go : Dec (i < k) → change (job_at L M b) k (move_at L M b k).job i ≡ job_at L M b i
        go (yes h) = change_low (job_at L M b) k (move_at L M b k).job i h
        go (no h) =
            rw ((move_right L.few M (cell_at L M b) (λ k. get_or starts k nowhere) (job_at L M b) k (s.invariant k)).once_final (all_final_at (job_at L M b) i f k (omega arith)))
            (change_same (job_at L M b) k i)

    needs_less : (t : ℕ) (ts : List ℕ) → needed M (job_at L M b i) ≤ occurs (suc i) (t ∷ ts) → needed M (job_at L M (turn L M b t).block i) ≤ occurs (suc i) ts
    unfolding occurs
    needs_less t ts h = go (turn L M b t) (outcome L M b t)
      where
        skip : t ≢ suc i → needed M (job_at L M b i) ≤ occurs (suc i) ts
        skip n = let h' = rw (ne_eqb t (suc i) n) at h in omega arith

        bad : (t ≡ 0) ⊎ (length b.jobs < t) → t ≢ suc i
        bad (inl e) = omega arith
        bad (inr e) = omega (arith, s.same_number)

        go : (u : Turned L M) → Outcome L M b t u → needed M (job_at L M u.block i) ≤ occurs (suc i) ts
        go u (no_such_job e) = skip (bad e)
        go u (misfit e) = let z : ◌≡◌ {A = ℕ} 0 1 = cc in absurd (omega arith)
        go u (taken k e x y) = rw (move_jobs L M b k x i) (at (ℕ_discrete k i))
          where
            at : Dec (k ≡ i) → needed M (change (job_at L M b) k (move_at L M b k).job i) ≤ occurs (suc i) ts
            at (yes q) =
                let h' = rw (eq-eqb t (suc i) (e ∙ ap suc q)) at h in
                rw (q, change_at (job_at L M b) i (move_at L M b i).job)
                (omega (arith, move_needs_less M L.few L.cells P K (cell_at L M b) (λ k. get_or starts k nowhere) (job_at L M b) i p (s.invariant i) f))
            at (no n) = rw (other k n) (skip (λ q. n (omega arith)))

  pub final_after : (b : Block S) → Sound L M table starts b → block_fits L M b ≡ true → all_final (job_at L M b) i ≡ true → (ts : List ℕ) → needed M (job_at L M b i) ≤ occurs (suc i) ts →
      (job_at L M (turns L M b ts) i).status ≡ final
  unfolding turns occurs
  final_after b s fit f [] h = needed_none M (job_at L M b i) h
  final_after b s fit f (t ∷ ts) h =
      final_after (turn L M b t).block (turn_sound L M table starts b t s) (turn_fits L M P b t fit)
      (all_final_of (job_at L M (turn L M b t).block) i (λ k x. turn_stays_final L M table starts b t s k (all_final_at (job_at L M b) i f k x))) ts
      (needs_less b s fit f t ts h)
