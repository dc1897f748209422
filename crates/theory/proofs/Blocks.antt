-- A turn of a block is a change of one job, or none; so the invariant holds of every block that an opening and turns gave.
-- A block's jobs are a list, and an index past its end holds a fresh job that nothing marks: so the list behaves as a function of the index.
use Rattle.std.specs.Prelude.{◌≡◌, ◌⊎◌, Bool, cond, ◌||◌, ℕ, suc, ◌+◌, ◌-◌, ◌<◌, length, take, drop, get_or, Option}
use Rattle.std.proofs.Math.Path.{refl, fun_ext}
use Rattle.std.proofs.Common.{sym, ap, ◌∙◌, subst₂, inl, inr, arith, length-append, length-drop, length-take-le, get_or-take, get_or-drop, get_or-append-add}
use Rattle.std.proofs.Math.Bool.{true, false}
use mathlib.Core.List.{List, [], ◌∷◌, ◌++◌, map}
use Rattle.std.proofs.Math.Decide.{ℕ_discrete, dec_lt}
use borrow.Author.Tests.{eqb-true, eqb-false, ltb-true, ltb-false}
use Rattle.std.proofs.Math.Dec.{eqb, ltb}
use Rattle.std.proofs.lemmas.List.{length-map, get_or_at}
use Rattle.std.proofs.Math.ListN.{get_or-append, get_or-map}
use Rattle.theory.specs.Word as W
use Rattle.theory.specs.Promise.{Machine}
use Rattle.theory.specs.Engine.{Job, Block, final, Limits, shown, mark_job, changed, fresh, block_fits, nobody, job_at, cell_at, Turned, move_to, move_at, turn, turns, opened}
use Rattle.theory.specs.Histories.{reached}
use Rattle.theory.proofs.Runs.{begin}
use Rattle.theory.proofs.Marks.{same_marks_none}
use Rattle.theory.proofs.Invariant.{Good, Invariant, change, change_at, change_low, change_high, change_keeps, stays_final}
use Rattle.theory.proofs.Moves.{move_right, move_unchanged, running≢final}

-- a change of a job to itself changes nothing
mark_job_same : {S : Type 0} (w : ℕ → Option ℕ) (t : ℕ) (b : Job S) → mark_job w w t b ≡ b
mark_job_same w t b = rw (same_marks_none w t b.reads) refl

pub change_same : {S : Type 0} (st : ℕ → Job S) (i k : ℕ) → change st i (st i) k ≡ st k
change_same st i k = go (ℕ_discrete k i) (dec_lt k i)
  where
    go : Dec (k ≡ i) → Dec (k < i) → change st i (st i) k ≡ st k
    go (yes q) d = rw q (change_at st i (st i))
    go (no n) (yes l) = change_low st i (st i) k l
    go (no n) (no l) = change_high st i (st i) k (omega arith) ∙ mark_job_same (shown (st i)) (suc i) (st k)

module _ (L : Limits) (M : Machine) where
  open M use {S, nowhere}

  -- ---- the job at index i becomes j
  abbrev pub changed_block : Block S → ℕ → Job S → Block S
  changed_block b i j = record { table = b.table; jobs = changed b.jobs i (job_at L M b i) j }

  module _ (b : Block S) (i : ℕ) (j : Job S) (h : i < length b.jobs) where
    front : length (take i b.jobs) ≡ i
    front = length-take-le i b.jobs (omega arith)

    pub changed_length : length (changed b.jobs i (job_at L M b i) j) ≡ length b.jobs
    changed_length = simp (length-append, length-map, length-drop) (omega (arith, front))

    changed_at : (k : ℕ) → job_at L M (changed_block b i j) k ≡ change (job_at L M b) i j k
    changed_at k = go (ℕ_discrete k i) (dec_lt k i)
      where
        mark : Job S → Job S
        mark = mark_job (shown (job_at L M b i)) (shown j) (suc i)

        above : List (Job S)
        above = map mark (drop (suc i) b.jobs)

        high : (n : ℕ) → get_or (take i b.jobs ++ (j ∷ above)) (i + suc n) (nobody L M) ≡ mark (get_or b.jobs (suc i + n) (nobody L M))
        high n =
            ap (λ m. get_or (take i b.jobs ++ (j ∷ above)) (m + suc n) (nobody L M)) (sym front) ∙ get_or-append-add (take i b.jobs) (j ∷ above) (suc n) (nobody L M)
            ∙ get_or-map mark (drop (suc i) b.jobs) n (nobody L M) ∙ ap mark (get_or-drop (suc i) b.jobs n (nobody L M))

        go : Dec (k ≡ i) → Dec (k < i) → get_or (take i b.jobs ++ (j ∷ above)) k (nobody L M) ≡ change (job_at L M b) i j k
        go (yes q) d = rw (q, change_at (job_at L M b) i j) (get_or_at (take i b.jobs) j above (nobody L M) i front)
        go (no n) (yes l) =
            rw (change_low (job_at L M b) i j k l) (get_or-append (take i b.jobs) (j ∷ above) (nobody L M) k (omega (arith, front)) ∙ get_or-take i b.jobs k (nobody L M) l)
        go (no d) (no l) =
            let n = k - suc i in
            let x : k ≡ i + suc n = omega arith in
            let y : suc i + n ≡ k = omega arith in
            rw (change_high (job_at L M b) i j k (omega arith))
            (ap (λ m. get_or (take i b.jobs ++ (j ∷ above)) m (nobody L M)) x ∙ high n ∙ ap (λ m. mark (get_or b.jobs m (nobody L M))) y)

  -- ---- what a turn does
  pub data Outcome (b : Block S) (t : ℕ) : Turned L M → Type 0 where
    no_such_job : (t ≡ 0) ⊎ (length b.jobs < t) → Outcome b t (record { word = W.bad_ticket; block = b })
    misfit : block_fits L M b ≡ false → Outcome b t (record { word = W.stuck; block = b })
    taken : (i : ℕ) → t ≡ suc i → i < length b.jobs → block_fits L M b ≡ true → Outcome b t (move_to L M b i (move_at L M b i).word (move_at L M b i).job)

  pub outcome : (b : Block S) (t : ℕ) → Outcome b t (turn L M b t)
  unfolding turn
  outcome b t = go (eqb t 0) refl (ltb (length b.jobs) t) refl (block_fits L M b) refl
    where
      go : (z : Bool) → eqb t 0 ≡ z → (y : Bool) → ltb (length b.jobs) t ≡ y → (x : Bool) → block_fits L M b ≡ x →
          Outcome b t (cond (z || y) (record { word = W.bad_ticket; block = b })
          (cond x (move_to L M b (t - 1) (move_at L M b (t - 1)).word (move_at L M b (t - 1)).job) (record { word = W.stuck; block = b })))
      go true p y q x r = no_such_job (inl (eqb-true t 0 p))
      go false p true q x r = no_such_job (inr (ltb-true (length b.jobs) t q))
      go false p false q false r = misfit r
      go false p false q true r = let n = eqb-false t 0 p in let l = ltb-false (length b.jobs) t q in taken (t - 1) (omega arith) (omega arith) r

  abbrev move_block : Block S → ℕ → Block S
  move_block b i = (move_to L M b i (move_at L M b i).word (move_at L M b i).job).block

  module _ (b : Block S) (i : ℕ) where
    abbrev j : Job S
    j = (move_at L M b i).job

    move_table : (move_block b i).table ≡ b.table
    move_table = go (W.changes (move_at L M b i).word)
      where
        go : (t : Bool) → (cond t (changed_block b i j) b).table ≡ b.table
        go true = refl
        go false = refl

    module _ (h : i < length b.jobs) where
      move_length : length (move_block b i).jobs ≡ length b.jobs
      move_length = go (W.changes (move_at L M b i).word)
        where
          go : (t : Bool) → length (cond t (changed_block b i j) b).jobs ≡ length b.jobs
          go true = changed_length b i j h
          go false = refl

      pub move_jobs : (k : ℕ) → job_at L M (move_block b i) k ≡ change (job_at L M b) i j k
      move_jobs k = go (W.changes (move_at L M b i).word) refl
        where
          go : (t : Bool) → W.changes (move_at L M b i).word ≡ t → job_at L M (cond t (changed_block b i j) b) k ≡ change (job_at L M b) i j k
          go true e = changed_at b i j h k
          go false e = rw (move_unchanged L.few M (cell_at L M b) (job_at L M b) i e) (sym (change_same (job_at L M b) i k))

  -- ---- any list of turns
  pub turns_keep : (P : Block S → Type 0) → ((b : Block S) (t : ℕ) → P b → P (turn L M b t).block) → (b : Block S) (ts : List ℕ) → P b → P (turns L M b ts)
  unfolding turns
  turns_keep P step b [] p = p
  turns_keep P step b (t ∷ ts) p = turns_keep P step (turn L M b t).block ts (step b t p)

  module _ (table : List ℕ) (starts : List S) where
    abbrev start_at : ℕ → S
    start_at k = get_or starts k nowhere

    -- a block in work on this table and these starts
    pub record Sound (b : Block S) : Type 0 where
      pub same_table : b.table ≡ table
      pub same_number : length b.jobs ≡ length starts
      pub invariant : Invariant M (cell_at L M b) start_at (job_at L M b)

    move_sound : (b : Block S) (i : ℕ) → i < length b.jobs → Sound b → Sound (move_block b i)
    move_sound b i h s = record {
      same_table = move_table b i ∙ s.same_table;
      same_number = move_length b i h ∙ s.same_number;
      invariant = subst₂ (λ (tb : List ℕ) (st : ℕ → Job S). Invariant M (λ c. get_or tb c 0) start_at st) (sym (move_table b i)) (sym (fun_ext (move_jobs b i h)))
          (change_keeps M (cell_at L M b) start_at (job_at L M b) i (move_at L M b i).job s.invariant (move_right L.few M (cell_at L M b) start_at (job_at L M b) i (s.invariant i)));
    }

    pub turn_sound : (b : Block S) (t : ℕ) → Sound b → Sound (turn L M b t).block
    turn_sound b t s = go (turn L M b t) (outcome b t)
      where
        go : (u : Turned L M) → Outcome b t u → Sound u.block
        go u (no_such_job e) = s
        go u (misfit e) = s
        go u (taken i e h f) = move_sound b i h s

    -- a final job stays final
    pub turn_stays_final : (b : Block S) (t : ℕ) → Sound b → (k : ℕ) → (job_at L M b k).status ≡ final → (job_at L M (turn L M b t).block k).status ≡ final
    turn_stays_final b t s k e = go (turn L M b t) (outcome b t)
      where
        go : (u : Turned L M) → Outcome b t u → (job_at L M u.block k).status ≡ final
        go u (no_such_job q) = e
        go u (misfit q) = e
        go u (taken i q h f) =
            ap (λ d. d.status) (move_jobs b i h k)
            ∙ stays_final M (cell_at L M b) start_at (job_at L M b) i (move_at L M b i).job s.invariant (move_right L.few M (cell_at L M b) start_at (job_at L M b) i (s.invariant i)) k e

    opened_sound : Sound (opened L M table starts)
    opened_sound = record {
      same_table = refl;
      same_number = length-map starts fresh;
      invariant = λ k. rw (get_or-map fresh starts k nowhere) (good k);
    }
      where
        good : (k : ℕ) → Good M (cell_at L M (opened L M table starts)) start_at (job_at L M (opened L M table starts)) k (fresh (start_at k))
        good k = record { ran = begin; fresh = tt; marked = refl; held = tt; stands = λ n. absurd (n refl); settled = λ q. absurd (running≢final q) }

    pub reached_sound : (ts : List ℕ) → Sound (reached L M table starts ts)
    reached_sound ts = turns_keep Sound turn_sound (opened L M table starts) ts opened_sound
