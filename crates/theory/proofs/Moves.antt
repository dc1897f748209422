-- Each move of a job is right for the job itself: a step goes on with its run, an end shows what it should, going back is an earlier run with the reads before
-- the mark, and final is reached unmarked with all lower jobs final. A word that changes nothing leaves the job as it was.
use Rattle.std.specs.Prelude.{◌≡◌, ◌≢◌, Bool, cond, List, [], ◌∷◌, ◌++◌, ℕ, ltb, length, take, Option, None, Some}
use Rattle.std.proofs.Math.Path.{refl, ap}
use Rattle.std.proofs.Common.{sym, ◌∙◌, inl, inr, arith, ltb-true, length-take-le}
use Rattle.std.proofs.Math.Bool.{true, false}
use Rattle.std.proofs.Math.ListN.{length-append}
use Rattle.theory.specs.Word as W
use Rattle.theory.specs.Promise.{Act, nothing, read, write, stop, abandon, stuck, Machine}
use Rattle.theory.specs.Engine.{Entry, Read, Checkpoint, Job, Status, running, ended, final, last_value, listed_value, value_at, shown, find, withdrawn, published, all_final, go_back, step_to, write_to, list_to, end_with, settle, moved, here, checkpoint_at, listing, read_step, instructed, ruled, move}
use Rattle.theory.specs.Every.{Every, every_append}
use Rattle.theory.proofs.Versions.{Below, below_le, withdrawn_below, published_below, shown_below, shown_append, value_append, value_take, shown_published}
use Rattle.theory.proofs.Runs.{Ran, by_nothing, by_write, by_own, by_listed, by_found, Earlier, ran_earlier}
use Rattle.theory.proofs.Invariant.{Fresh, Stands, Good, RightMove}

pub running≢final : running ≢ final
running≢final e = let z : ◌≡◌ {A = ℕ} 0 1 = cc in omega arith

ended≢final : ended ≢ final
ended≢final e = let z : ◌≡◌ {A = ℕ} 0 1 = cc in omega arith

ended≢running : ended ≢ running
ended≢running e = let z : ◌≡◌ {A = ℕ} 0 1 = cc in omega arith

module _ (few : ℕ) (M : Machine) (table : ℕ → ℕ) where
  open M use {S, act, given}

  module _ (start : ℕ → S) (st : ℕ → Job S) (i : ℕ) (b : Job S) (g : Good M table start st i b) where
    abbrev Right : Job S → Type 0
    Right d = RightMove M table start st i b d

    still : Right b
    still = record { good = g; same_value = λ c e. refl; once_final = λ e. refl }

    -- a job that is running and unmarked after its move
    goes_on : (d : Job S) → d.status ≡ running → d.mark ≡ None → Ran M (start i) d.reads d.journal d.state → Every (Fresh M table start st i) d.reads →
        Below (length d.journal) d.versions → Good M table start st i d
    goes_on d e m ran fr h = record { ran = ran; fresh = rw m fr; marked = rw m refl; held = h; stands = λ n. absurd (n e); settled = λ q. absurd (running≢final (sym e ∙ q)) }

    -- 2. back
    goes_back : b.status ≢ final → (m : ℕ) → b.mark ≡ Some m → Right (go_back b (checkpoint_at b m))
    unfolding shown
    goes_back n m e = go (checkpoint_at b m) (ran_earlier M g.ran m (here b) (ltb-true m (length b.reads) (rw e at g.marked)))
      where
        before : Every (Fresh M table start st i) (take m b.reads)
        before = rw e at g.fresh

        go : (k : Checkpoint S) → Earlier M (start i) b.reads b.journal m k → Right (go_back b k)
        go k x = record {
          good = goes_on (go_back b k) refl refl x.ran (rw x.listed before) (rw (length-take-le k.writes b.journal x.writes) (withdrawn_below k.writes b.versions));
          same_value = λ c q. ap (value_at (take k.writes b.journal)) q
              ∙ value_take k.writes b.journal (shown b c)
              (λ p y. shown_below (take k.writes b.journal) k.writes (withdrawn k.writes b.versions) c p (withdrawn_below k.writes b.versions) (q ∙ y));
          once_final = λ q. absurd (n q);
        }

    module _ (e : b.status ≡ running) (m : b.mark ≡ None) where
      fresh_all : Every (Fresh M table start st i) b.reads
      fresh_all = rw m at g.fresh

      never_final : {A : Type 0} → b.status ≡ final → A
      never_final q = absurd (running≢final (sym e ∙ q))

      -- 3. step
      steps : (s : S) → Ran M (start i) b.reads b.journal s → Right (step_to b s)
      unfolding shown
      steps s ran = record { good = goes_on (step_to b s) e m ran fresh_all g.held; same_value = λ c q. refl; once_final = λ q. never_final q }

      writes : (s : S) (x : Entry) → Ran M (start i) b.reads (b.journal ++ (x ∷ [])) s → Right (write_to b s x)
      unfolding shown
      writes s x ran = record {
        good = goes_on (write_to b s x) e m ran fresh_all (below_le (length b.journal) (length (b.journal ++ (x ∷ []))) b.versions (simp length-append (omega arith)) g.held);
        same_value = λ c q. ap (value_at (b.journal ++ (x ∷ []))) (shown_append b.journal (x ∷ []) b.versions c g.held)
            ∙ value_append b.journal (x ∷ []) (shown b c) (λ p y. shown_below b.journal (length b.journal) b.versions c p g.held y);
        once_final = λ q. never_final q;
      }

      lists : (s : S) (r : Read S) → Ran M (start i) (b.reads ++ (r ∷ [])) b.journal s → Fresh M table start st i r → Right (list_to b s r)
      unfolding shown
      lists s r ran fr = record {
        good = goes_on (list_to b s r) e m ran (every_append (Fresh M table start st i) b.reads (r ∷ []) fresh_all (fr, tt)) g.held;
        same_value = λ c q. refl;
        once_final = λ q. never_final q;
      }

      -- 4. end
      ends : (vs : List ℕ) → Below (length b.journal) vs → Stands M table start (end_with b vs) → Right (end_with b vs)
      ends vs h at = record {
        good = record { ran = g.ran; fresh = g.fresh; marked = g.marked; held = h; stands = λ n. at; settled = λ q. absurd (ended≢final q) };
        same_value = λ c q. ap (value_at b.journal) q;
        once_final = λ q. never_final q;
      }

      instructed_right : (a : Act S) → act b.state ≡ a → Right (instructed few M table st i b a).job
      unfolding shown
      instructed_right (nothing s) q = steps s (by_nothing g.ran q)
      instructed_right (read c) q = go (last_value b.journal c) refl (listed_value b.reads c) refl
        where
          room : (t : Bool) (r : Read S) (s : S) → Right (list_to b s r) → Right (cond t (moved W.step (list_to b s r)) (moved W.stuck b)).job
          room true r s x = x
          room false r s x = still

          go : (o : Option ℕ) → last_value b.journal c ≡ o → (o' : Option ℕ) → listed_value b.reads c ≡ o' → Right (read_step few M table b c o o' (find table st c i)).job
          go (Some v) x o y = steps _ (by_own g.ran q x)
          go None x (Some v) y = steps _ (by_listed g.ran q x y)
          go None x None y =
              let r = listing b c (find table st c i) in
              room (ltb (length b.reads) few) r (given b.state r.value) (lists _ r (by_found r g.ran q x y refl) refl)
      instructed_right (write c v s) q = room (ltb (length b.journal) few)
        where
          room : (t : Bool) → Right (cond t (moved W.step (write_to b s (record { cell = c; value = v }))) (moved W.stuck b)).job
          room true = writes s _ (by_write g.ran q)
          room false = still
      instructed_right stop q = ends (published b.journal) (published_below b.journal) (inl (q, λ c. shown_published b.journal c))
      instructed_right abandon q = ends [] tt (inr (q, λ c. refl))
      instructed_right stuck q = still

    -- 5. final
    settles : b.status ≡ ended → b.mark ≡ None → all_final st i ≡ true → Right (settle b)
    unfolding shown
    settles e m f = record {
      good = record { ran = g.ran; fresh = g.fresh; marked = g.marked; held = g.held; stands = λ n. g.stands (λ q. ended≢running (sym e ∙ q)); settled = λ q. (m, f) };
      same_value = λ c q. refl;
      once_final = λ q. absurd (ended≢final (sym e ∙ q));
    }

    ruled_right : (s : Status) → b.status ≡ s → (o : Option ℕ) → b.mark ≡ o → Right (ruled few M table st i b s o).job
    ruled_right final e m q = still
    ruled_right running e (Some m) q = goes_back (λ x. running≢final (sym e ∙ x)) m q
    ruled_right running e None q = instructed_right e q (act b.state) refl
    ruled_right ended e (Some m) q = goes_back (λ x. ended≢final (sym e ∙ x)) m q
    ruled_right ended e None q = go (all_final st i) refl
      where
        go : (t : Bool) → all_final st i ≡ t → Right (cond t (moved W.final (settle b)) (moved W.wait b)).job
        go true x = settles e q x
        go false x = still

  pub move_right : (start : ℕ → S) (st : ℕ → Job S) (i : ℕ) → Good M table start st i (st i) → RightMove M table start st i (st i) (move few M table st i).job
  unfolding move
  move_right start st i g = ruled_right start st i (st i) g (st i).status refl (st i).mark refl

  -- a word that changes nothing leaves the job as it was
  pub move_unchanged : (st : ℕ → Job S) (i : ℕ) → W.changes (move few M table st i).word ≡ false → (move few M table st i).job ≡ st i
  unfolding move
  move_unchanged st i = go (st i).status (st i).mark
    where
      b : Job S
      b = st i

      room : (t : Bool) (d : Job S) → W.changes (cond t (moved W.step d) (moved W.stuck b)).word ≡ false → (cond t (moved W.step d) (moved W.stuck b)).job ≡ b
      room true d e = cc
      room false d e = refl

      reads : (c : ℕ) (o o' : Option ℕ) → W.changes (read_step few M table b c o o' (find table st c i)).word ≡ false → (read_step few M table b c o o' (find table st c i)).job ≡ b
      reads c (Some v) o' e = cc
      reads c None (Some v) e = cc
      reads c None None e = room (ltb (length b.reads) few) _ e

      acts : (a : Act S) → W.changes (instructed few M table st i b a).word ≡ false → (instructed few M table st i b a).job ≡ b
      acts (nothing s) e = cc
      acts (read c) e = reads c (last_value b.journal c) (listed_value b.reads c) e
      acts (write c v s) e = room (ltb (length b.journal) few) _ e
      acts stop e = cc
      acts abandon e = cc
      acts stuck e = refl

      ends : (t : Bool) → W.changes (cond t (moved W.final (settle b)) (moved W.wait b)).word ≡ false → (cond t (moved W.final (settle b)) (moved W.wait b)).job ≡ b
      ends true e = cc
      ends false e = refl

      go : (s : Status) (o : Option ℕ) → W.changes (ruled few M table st i b s o).word ≡ false → (ruled few M table st i b s o).job ≡ b
      go final o e = refl
      go running (Some m) e = cc
      go running None e = acts (act b.state) e
      go ended (Some m) e = cc
      go ended None e = ends (all_final st i) e
