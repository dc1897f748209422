-- A block that fits its sizes fits after any turn. A move adds an entry or a read only where there is room; going back cuts the journal and the reads to what
-- they were at a checkpoint, and the checkpoints before that one hold no more than it does; and a mark names a read that is listed.
use Rattle.std.specs.Prelude.{◌≡◌, Bool, false, cond, List, [], ◌∷◌, ◌++◌, map, ℕ, suc, ◌+◌, ◌≤◌, ◌<◌, leb, take, drop, Option, None, Some}
use Rattle.std.proofs.Math.Path.{refl}
use Rattle.std.proofs.Math.Bool.{true}
use Rattle.std.proofs.Common.{arith, length-append, length-take, length-take-le}
use borrow.Author.Tests.{ltb-true, lt-ltb, leb-true, le-leb}
use Rattle.std.proofs.Math.Dec.{ltb}
use Rattle.std.proofs.Math.ListN.{length}
use Rattle.std.proofs.lemmas.List.{length-map}
use Rattle.theory.specs.Word as W
use Rattle.theory.specs.Promise.{Act, nothing, read, write, stop, abandon, stuck, Machine, Promise}
use Rattle.theory.specs.Engine.{Entry, Checkpoint, Job, Block, Limits, Status, running, ended, final, last_value, listed_value, find, published, mark_job, all_final, fresh, go_back, step_to, write_to, list_to, end_with, settle, moved, here, checkpoint_at, listing, read_step, instructed, ruled, move, all, mark_fits, entry_fits, reads_fit, job_fits, block_fits, job_at, cell_at, nobody, shown, Turned, move_at, turn, turns, opened}
use Rattle.theory.specs.Every.{Every, every_append, every_take, every_drop, every_at, every_imp, every_map, every_of_all, all_of_every}
use Rattle.theory.proofs.Versions.{Below, below_le, withdrawn_below, published_below}
use Rattle.theory.proofs.Marks.{mark_fits_lem}
use Rattle.theory.proofs.ReadSizes.{both, reads_more, reads_one, CheckpointFits, checkpoint_fits, reads_cut}
use Rattle.theory.proofs.Blocks.{changed_block, changed_length, Outcome, no_such_job, misfit, taken, outcome, turns_keep}

module _ (L : Limits) (M : Machine) where
  open M use {S, act, given, fits}

  -- ---- a job
  record Fits (b : Job S) : Type 0 where
    state : fits b.state ≡ true
    journal : length b.journal ≤ L.few
    cells : Every (λ e. entry_fits L M e ≡ true) b.journal
    versions : Below (length b.journal) b.versions
    listed : length b.reads ≤ L.few
    reads : reads_fit L M (length b.journal) 0 b.reads ≡ true
    mark : mark_fits b.mark (length b.reads) ≡ true

  fits_of : (b : Job S) → job_fits L M b ≡ true → Fits b
  unfolding job_fits
  fits_of b e =
      let p₆ = both _ (mark_fits b.mark (length b.reads)) e in
      let p₅ = both _ (reads_fit L M (length b.journal) 0 b.reads) p₆.0 in
      let p₄ = both _ (leb (length b.reads) L.few) p₅.0 in
      let p₃ = both _ (all (λ v. ltb v (length b.journal)) b.versions) p₄.0 in
      let p₂ = both _ (all (entry_fits L M) b.journal) p₃.0 in
      let p₁ = both (fits b.state) (leb (length b.journal) L.few) p₂.0 in
      record {
        state = p₁.0;
        journal = leb-true (length b.journal) L.few p₁.1;
        cells = every_of_all (entry_fits L M) b.journal p₂.1;
        versions = every_imp (λ v. ltb v (length b.journal) ≡ true) (λ v. v < length b.journal) (λ v q. ltb-true v (length b.journal) q) b.versions
            (every_of_all (λ v. ltb v (length b.journal)) b.versions p₃.1);
        listed = leb-true (length b.reads) L.few p₄.1;
        reads = p₅.1;
        mark = p₆.1;
      }

  of_fits : (b : Job S) → Fits b → job_fits L M b ≡ true
  unfolding job_fits
  of_fits b f =
      let j = le-leb (length b.journal) L.few f.journal in
      let r = le-leb (length b.reads) L.few f.listed in
      rw (f.state, j, all_of_every (entry_fits L M) b.journal f.cells, below, r, f.reads, f.mark) refl
    where
      below : all (λ v. ltb v (length b.journal)) b.versions ≡ true
      below = all_of_every (λ v. ltb v (length b.journal)) b.versions
          (every_imp (λ v. v < length b.journal) (λ v. ltb v (length b.journal) ≡ true) (λ v q. lt-ltb v (length b.journal) q) b.versions f.versions)

  fresh_fits : (s : S) → fits s ≡ true → job_fits L M (fresh s) ≡ true
  fresh_fits s e = of_fits (fresh s) (record { state = e; journal = omega arith; cells = tt; versions = tt; listed = omega arith; reads = refl; mark = refl })

  marked_fits : (before after : ℕ → Option ℕ) (t : ℕ) (b : Job S) → job_fits L M b ≡ true → job_fits L M (mark_job before after t b) ≡ true
  marked_fits before after t b e =
      let f = fits_of b e in
      of_fits (mark_job before after t b) (record {
        state = f.state;
        journal = f.journal;
        cells = f.cells;
        versions = f.versions;
        listed = f.listed;
        reads = f.reads;
        mark = mark_fits_lem before after t b f.mark;
      })

  module _ (P : Promise L.cells M) (table : ℕ → ℕ) (st : ℕ → Job S) (i : ℕ) (b : Job S) (f : Fits b) where
    back_fits : (m : ℕ) → b.mark ≡ Some m → Fits (go_back b (checkpoint_at b m))
    back_fits m e =
        go (checkpoint_at b m) (checkpoint_fits L M (length b.journal) 0 b.reads m (here b) h f.reads)
        (λ l g. reads_cut L M (length b.journal) 0 b.reads m (here b) l h g f.reads)
      where
        h : m < length b.reads
        h = ltb-true m (length b.reads) (rw e at f.mark)

        go : (k : Checkpoint S) → CheckpointFits L M (length b.journal) 0 b.reads m k → ((l : ℕ) → l ≤ m → reads_fit L M k.writes 0 (take l b.reads) ≡ true) → Fits (go_back b k)
        go k c cut =
            let n : length (take k.writes b.journal) ≡ k.writes = length-take-le k.writes b.journal c.writes in
            record {
              state = c.state;
              journal = omega (arith, c.writes, f.journal);
              cells = every_take (λ e. entry_fits L M e ≡ true) k.writes b.journal f.cells;
              versions = rw n (withdrawn_below k.writes b.versions);
              listed = simp length-take (omega (arith, f.listed));
              reads = rw n (cut k.listed (omega (arith, c.listed)));
              mark = refl;
            }

    step_fits : (s : S) → fits s ≡ true → Fits (step_to b s)
    step_fits s e = record { state = e; journal = f.journal; cells = f.cells; versions = f.versions; listed = f.listed; reads = f.reads; mark = f.mark }

    write_fits : (s : S) (x : Entry) → fits s ≡ true → entry_fits L M x ≡ true → length b.journal < L.few → Fits (write_to b s x)
    write_fits s x e c h =
        let n : length (b.journal ++ (x ∷ [])) ≡ length b.journal + 1 = length-append b.journal (x ∷ []) in
        record {
          state = e;
          journal = omega (arith, n);
          cells = every_append (λ e. entry_fits L M e ≡ true) b.journal (x ∷ []) f.cells (c, tt);
          versions = below_le (length b.journal) (length (b.journal ++ (x ∷ []))) b.versions (omega (arith, n)) f.versions;
          listed = f.listed;
          reads = reads_more L M (length b.journal) (length (b.journal ++ (x ∷ []))) 0 b.reads (omega (arith, n)) f.reads;
          mark = f.mark;
        }

    list_fits : (s : S) (c : ℕ) (v : ℕ × ℕ) → fits s ≡ true → c < L.cells → length b.reads < L.few → b.mark ≡ None → Fits (list_to b s (listing b c v))
    list_fits s c v e l h m = record {
      state = e;
      journal = f.journal;
      cells = f.cells;
      versions = f.versions;
      listed = simp length-append (omega arith);
      reads = reads_one L M (length b.journal) 0 b.reads (listing b c v) (lt-ltb c L.cells l) f.state (omega arith) refl f.reads;
      mark = rw m refl;
    }

    end_fits : (vs : List ℕ) → Below (length b.journal) vs → Fits (end_with b vs)
    end_fits vs h = record { state = f.state; journal = f.journal; cells = f.cells; versions = h; listed = f.listed; reads = f.reads; mark = f.mark }

    settle_fits : Fits (settle b)
    settle_fits = record { state = f.state; journal = f.journal; cells = f.cells; versions = f.versions; listed = f.listed; reads = f.reads; mark = f.mark }

    instructed_fits : (a : Act S) → act b.state ≡ a → b.mark ≡ None → Fits (instructed L.few M table st i b a).job
    instructed_fits (nothing s) q m = step_fits s (P.fits_nothing b.state s f.state q)
    instructed_fits (read c) q m = go (last_value b.journal c) (listed_value b.reads c)
      where
        given_fits : (v : ℕ) → fits (given b.state v) ≡ true
        given_fits v = P.fits_read b.state c v f.state q

        v : ℕ × ℕ
        v = find table st c i

        room : (t : Bool) → ltb (length b.reads) L.few ≡ t → Fits (cond t (moved W.step (list_to b (given b.state v.1) (listing b c v))) (moved W.stuck b)).job
        room true x = list_fits (given b.state v.1) c v (given_fits v.1) (P.cell_read b.state c q) (ltb-true (length b.reads) L.few x) m
        room false x = f

        go : (o o' : Option ℕ) → Fits (read_step L.few M table b c o o' v).job
        go (Some v) o' = step_fits (given b.state v) (given_fits v)
        go None (Some v) = step_fits (given b.state v) (given_fits v)
        go None None = room (ltb (length b.reads) L.few) refl
    instructed_fits (write c v s) q m = room (ltb (length b.journal) L.few) refl
      where
        room : (t : Bool) → ltb (length b.journal) L.few ≡ t → Fits (cond t (moved W.step (write_to b s (record { cell = c; value = v }))) (moved W.stuck b)).job
        room true x = write_fits s _ (P.fits_write b.state s c v f.state q) (lt-ltb c L.cells (P.cell_write b.state s c v q)) (ltb-true (length b.journal) L.few x)
        room false x = f
    instructed_fits stop q m = end_fits (published b.journal) (published_below b.journal)
    instructed_fits abandon q m = end_fits [] tt
    instructed_fits stuck q m = f

    ruled_fits : (s : Status) (o : Option ℕ) → b.mark ≡ o → Fits (ruled L.few M table st i b s o).job
    ruled_fits final o e = f
    ruled_fits running (Some m) e = back_fits m e
    ruled_fits running None e = instructed_fits (act b.state) refl e
    ruled_fits ended (Some m) e = back_fits m e
    ruled_fits ended None e = go (all_final st i)
      where
        go : (t : Bool) → Fits (cond t (moved W.final (settle b)) (moved W.wait b)).job
        go true = settle_fits
        go false = f

  move_fits : Promise L.cells M → (table : ℕ → ℕ) (st : ℕ → Job S) (i : ℕ) → job_fits L M (st i) ≡ true → job_fits L M (move L.few M table st i).job ≡ true
  unfolding move
  move_fits P table st i e = of_fits _ (ruled_fits P table st i (st i) (fits_of (st i) e) (st i).status (st i).mark refl)

  -- ---- a block
  changed_fits : (b : Block S) (i : ℕ) (j : Job S) → i < length b.jobs → block_fits L M b ≡ true → job_fits L M j ≡ true → block_fits L M (changed_block L M b i j) ≡ true
  unfolding block_fits
  changed_fits b i j h e f =
      let p = both (leb (length b.jobs) L.most_jobs) (all (job_fits L M) b.jobs) e in
      let js = every_of_all (job_fits L M) b.jobs p.1 in
      rw (changed_length L M b i j h, p.0)
      (all_of_every (job_fits L M) (changed_block L M b i j).jobs
      (every_append Fit (take i b.jobs) _ (every_take Fit i b.jobs js)
      (f, every_map Fit Fit mark (λ d q. marked_fits (shown (job_at L M b i)) (shown j) (suc i) d q) (drop (suc i) b.jobs) (every_drop Fit (suc i) b.jobs js))))
    where
      Fit : Job S → Type 0
      Fit d = job_fits L M d ≡ true

      mark : Job S → Job S
      mark d = mark_job (shown (job_at L M b i)) (shown j) (suc i) d

  pub turn_fits : Promise L.cells M → (b : Block S) (t : ℕ) → block_fits L M b ≡ true → block_fits L M (turn L M b t).block ≡ true
  turn_fits P b t e = go (turn L M b t) (outcome L M b t)
    where
      go : (u : Turned L M) → Outcome L M b t u → block_fits L M u.block ≡ true
      go u (no_such_job q) = e
      go u (misfit q) = e
      go u (taken i q h x) = at (W.changes (move_at L M b i).word)
        where
          own : job_fits L M (job_at L M b i) ≡ true
          own = every_at (λ d. job_fits L M d ≡ true) b.jobs i (nobody L M) h
              (every_of_all (job_fits L M) b.jobs (unfold block_fits in (both (leb (length b.jobs) L.most_jobs) (all (job_fits L M) b.jobs) e).1))

          at : (w : Bool) → block_fits L M (cond w (changed_block L M b i (move_at L M b i).job) b) ≡ true
          at true = changed_fits b i (move_at L M b i).job h e (move_fits P (cell_at L M b) (job_at L M b) i own)
          at false = e

  pub turns_fit : Promise L.cells M → (b : Block S) (ts : List ℕ) → block_fits L M b ≡ true → block_fits L M (turns L M b ts) ≡ true
  turns_fit P b ts e = turns_keep L M (λ b. block_fits L M b ≡ true) (turn_fits P) b ts e

  -- and a block of fresh jobs fits if their starts do
  pub opened_fits : (table : List ℕ) (starts : List S) → length starts ≤ L.most_jobs → Every (λ s. fits s ≡ true) starts → block_fits L M (opened L M table starts) ≡ true
  unfolding block_fits
  opened_fits table starts h a =
      rw (length-map starts (fresh {S = S}), le-leb (length starts) L.most_jobs h)
      (all_of_every (job_fits L M) (map fresh starts) (every_map (λ s. fits s ≡ true) (λ d. job_fits L M d ≡ true) fresh fresh_fits starts a))
