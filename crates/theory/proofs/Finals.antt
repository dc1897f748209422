-- f, the number of final jobs. Only a turn whose word is final makes a job final, and it makes one; and a job is final only after all lower ones,
-- so the final jobs are the first f.
use Rattle.std.specs.Prelude.{◌≡◌, refl, ◌≢◌, ◌↔◌, Bool, true, false, cond, ℕ, zero, suc, ◌+◌, ◌<◌, ltb, length, take, drop, get_or, Option, None, Some}
use Rattle.std.proofs.Common.{sym, ap, ◌∙◌}
use mathlib.Core.List.{List, [], ◌∷◌, ◌++◌, map}
use native.Mathlib.Omega.{arith}
use Rattle.std.proofs.Math.Seq.{split_at}
use Rattle.theory.specs.Word as W
use Rattle.theory.specs.Word.{final_word}
use Rattle.theory.specs.Promise.{Act, nothing, read, write, stop, abandon, stuck, Machine}
use Rattle.theory.specs.Engine.{Job, Block, Limits, Status, running, ended, final, is_final, shown, find, mark_job, all_final, last_value, listed_value, settle, moved, read_step, instructed, ruled, move, job_at, nobody, cell_at, Turned, move_at, turn, turns, finals}
use Rattle.theory.specs.Histories.{final_turns}
use Rattle.theory.proofs.Invariant.{is_final_true, all_final_at, all_final_of}
use Rattle.theory.proofs.Moves.{running≢final}
use Rattle.theory.proofs.Blocks.{changed_block, Outcome, no_such_job, misfit, taken, outcome, Sound}

abbrev one : Bool → ℕ
one t = cond t 1 0

unchanged_not_final : (w : W.Word) → W.changes w ≡ false → final_word w ≡ 0
unchanged_not_final W.idle e = refl
unchanged_not_final W.back e = cc
unchanged_not_final W.step e = cc
unchanged_not_final W.end e = cc
unchanged_not_final W.final e = cc
unchanged_not_final W.wait e = refl
unchanged_not_final W.bad_ticket e = refl
unchanged_not_final W.stuck e = refl

-- a job becomes final by the word final, and by no other
move_final : (few : ℕ) (M : Machine) (table : ℕ → ℕ) (st : ℕ → Job M.S) (i : ℕ) →
    one (is_final (move few M table st i).job.status) ≡ one (is_final (st i).status) + final_word (move few M table st i).word
unfolding move
move_final few M table st i = go (st i).status refl (st i).mark
  where
    b : Job M.S
    b = st i

    room : (t : Bool) (d : Job M.S) → b.status ≡ running → d.status ≡ running →
        one (is_final (cond t (moved W.step d) (moved W.stuck b)).job.status) ≡ final_word (cond t (moved W.step d) (moved W.stuck b)).word
    room true d e x = rw x refl
    room false d e x = rw e refl

    reads : (c : ℕ) (o o' : Option ℕ) → b.status ≡ running →
        one (is_final (read_step few M table b c o o' (find table st c i)).job.status) ≡ final_word (read_step few M table b c o o' (find table st c i)).word
    reads c (Some v) o' e = rw e refl
    reads c None (Some v) e = rw e refl
    reads c None None e = room (ltb (length b.reads) few) _ e e

    acts : (a : Act M.S) → b.status ≡ running → one (is_final (instructed few M table st i b a).job.status) ≡ final_word (instructed few M table st i b a).word
    acts (nothing s) e = rw e refl
    acts (read c) e = reads c (last_value b.journal c) (listed_value b.reads c) e
    acts (write c v s) e = room (ltb (length b.journal) few) _ e e
    acts stop e = refl
    acts abandon e = refl
    acts stuck e = rw e refl

    go : (s : Status) → b.status ≡ s → (o : Option ℕ) → one (is_final (ruled few M table st i b s o).job.status) ≡ one (is_final s) + final_word (ruled few M table st i b s o).word
    go final e o = rw e refl
    go running e (Some m) = refl
    go running e None = omega (arith, acts (M.act b.state) e)
    go ended e (Some m) = refl
    go ended e None = at (all_final st i)
      where
        at : (t : Bool) → one (is_final (cond t (moved W.final (settle b)) (moved W.wait b)).job.status) ≡ 0 + final_word (cond t (moved W.final (settle b)) (moved W.wait b)).word
        at true = refl
        at false = rw e refl

module _ (L : Limits) (M : Machine) where
  open M use {S}

  finals_append : (xs ys : List (Job S)) → finals L M (xs ++ ys) ≡ finals L M xs + finals L M ys
  finals_append [] ys = omega arith
  finals_append (x ∷ xs) ys = omega (arith, finals_append xs ys)

  finals_mark : (before after : ℕ → Option ℕ) (t : ℕ) (js : List (Job S)) → finals L M (map (mark_job before after t) js) ≡ finals L M js
  finals_mark before after t [] = refl
  finals_mark before after t (j ∷ js) = rw (finals_mark before after t js) refl

  finals_changed : (b : Block S) (i : ℕ) (j : Job S) → i < length b.jobs →
      finals L M (changed_block L M b i j).jobs + one (is_final (job_at L M b i).status) ≡ finals L M b.jobs + one (is_final j.status)
  finals_changed b i j h =
      let low = take i b.jobs in
      let high = drop (suc i) b.jobs in
      let before : finals L M b.jobs ≡ finals L M low + (one (is_final (job_at L M b i).status) + finals L M high)
      = ap (finals L M) (split_at b.jobs i (nobody L M) h) ∙ finals_append low (job_at L M b i ∷ high) in
      omega (arith, before, finals_append low (j ∷ map (mark_job (shown (job_at L M b i)) (shown j) (suc i)) high), finals_mark (shown (job_at L M b i)) (shown j) (suc i) high)

  -- a turn adds one to f if its word is final, else nothing
  pub finals_turn : (b : Block S) (t : ℕ) → finals L M (turn L M b t).block.jobs ≡ finals L M b.jobs + final_word (turn L M b t).word
  finals_turn b t = go (turn L M b t) (outcome L M b t)
    where
      go : (u : Turned L M) → Outcome L M b t u → finals L M u.block.jobs ≡ finals L M b.jobs + final_word u.word
      go u (no_such_job e) = omega arith
      go u (misfit e) = omega arith
      go u (taken i e h x) = at (W.changes w) refl
        where
          w : W.Word
          w = (move_at L M b i).word

          j : Job S
          j = (move_at L M b i).job

          at : (z : Bool) → W.changes w ≡ z → finals L M (cond z (changed_block L M b i j) b).jobs ≡ finals L M b.jobs + final_word w
          at true q = omega (arith, finals_changed b i j h, move_final L.few M (cell_at L M b) (job_at L M b) i)
          at false q = omega (arith, unchanged_not_final w q)

  pub finals_turns : (b : Block S) (ts : List ℕ) → finals L M (turns L M b ts).jobs ≡ finals L M b.jobs + final_turns L M b ts
  unfolding final_turns turns
  finals_turns b [] = omega arith
  finals_turns b (t ∷ ts) = omega (arith, finals_turns (turn L M b t).block ts, finals_turn b t)

  -- ---- the final jobs are the first f
  abbrev FinalAt : List (Job S) → ℕ → Type 0
  FinalAt js i = (get_or js i (nobody L M)).status ≡ final

  front : (js : List (Job S)) → ((k i : ℕ) → i < k → FinalAt js k → FinalAt js i) → (i : ℕ) → (i < finals L M js → FinalAt js i) × (FinalAt js i → i < finals L M js)
  front [] h i = (λ l. absurd (omega arith), λ e. absurd (running≢final e))
  front (j ∷ js) h i = go (is_final j.status) refl i (front js (λ k i l e. h (suc k) (suc i) (omega arith) e))
    where
      not : is_final j.status ≡ false → j.status ≢ final
      not e f = let z : ◌≡◌ {A = Bool} true false = sym (ap is_final f) ∙ e in absurd (let y : ◌≡◌ {A = ℕ} 0 1 = cc in omega arith)

      go : (t : Bool) → is_final j.status ≡ t → (i : ℕ) → ((i : ℕ) → (i < finals L M js → FinalAt js i) × (FinalAt js i → i < finals L M js)) →
          (i < one t + finals L M js → FinalAt (j ∷ js) i) × (FinalAt (j ∷ js) i → i < one t + finals L M js)
      go true e zero ih = (λ l. is_final_true j.status e, λ f. omega arith)
      go true e (suc i) ih = (λ l. (ih i).0 (omega arith), λ f. omega (arith, (ih i).1 f))
      go false e i ih = (λ l. absurd (not e (h (suc 0) 0 (omega arith) ((ih 0).0 (omega arith)))), λ f. absurd (no_final i f))
        where
          no_final : (i : ℕ) → FinalAt (j ∷ js) i → ⊥
          no_final zero f = not e f
          no_final (suc i) f = not e (h (suc i) 0 (omega arith) f)

  module _ (table : List ℕ) (starts : List S) (b : Block S) (s : Sound L M table starts b) where
    pub lower_final : (k i : ℕ) → i < k → (job_at L M b k).status ≡ final → (job_at L M b i).status ≡ final
    lower_final k i h e = all_final_at (job_at L M b) k ((s.invariant k).settled e).1 i h

    -- the job at index i is final exactly if i is below f
    pub final_iff : (i : ℕ) → (i < finals L M b.jobs) ↔ ((job_at L M b i).status ≡ final)
    final_iff i = front b.jobs lower_final i

    pub first_final : all_final (job_at L M b) (finals L M b.jobs) ≡ true
    first_final = all_final_of (job_at L M b) (finals L M b.jobs) (λ i l. (final_iff i).0 l)
