-- A rule on a job's parts is the plain rule in any block that has these parts: the laws of the rules speak of the block, and the parts are its own.
use mathlib.Core.Path.{◌≡◌, refl, ap, sym, subst, ◌∙◌}
use mathlib.Core.Bool.{Bool, true, false}
use mathlib.Core.Logic.{inl, inr}
use mathlib.Core.List.{List, [], ◌∷◌, ◌++◌}
use Prim.Native.Nat.{ℕ, ◌+◌, ◌-◌, ◌*◌, ◌≤◌, ◌<◌}
use native.Mathlib.Omega.{arith}
use lib.Dec.{leb}
use lib.ListN.{get_or, take}
use Rattle.std.specs.List.{list_all}
use borrow.Author.Tests.{lt-leb}
use Rattle.std.specs.Prelude.{Option, None, Some}
use Rattle.theory.specs.Engine as E
use Rattle.theory.specs.Engine.{or_else, last_value, published, withdrawn}
use Rattle.machine.specs.Limits.{ROOM}
use Rattle.machine.specs.Machine.{Running, given, in_job}
use Rattle.machine.specs.View.{state_of, act_of}
use Rattle.machine.specs.declared.instruction.Instruction.{Instruction}
use Rattle.machine.specs.declared.counts.Cell.{Cell}
use Rattle.machine.specs.declared.job.State.{State}
use Rattle.machine.specs.declared.step.Act.{Act as CodeAct}
use Rattle.machine.specs.declared.step.Act.TheVariants.{Nothing as NoAct, Read as ReadAct, Write as WriteAct, Stop as StopAct, Abandon as AbandonAct, Stuck as StuckAct}
use Rattle.machine.specs.declared.step.Stepped.{Stepped}
use Rattle.rules.specs.Box.{box_promise}
use Rattle.rules.specs.Steps.{StepsIn}
use Rattle.rules.specs.View.{entry_of, journal_of, versions_of, version_of, found_in, no_journal, no_versions, no_reads, Showing}
use Rattle.rules.specs.Block.{no_checkpoint, running_of}
use Rattle.rules.specs.Moves.{Adds, Held}
use Rattle.rules.specs.Turn.{Did, listed_in, final_below, outside, reading, writing, stepping, moving}
use Rattle.rules.specs.Own.{still, stepped, wrote, listed, ended, settled_own, went_back, Wrote, Lists, Goes, own_of, turned_by, At, Done, Moves, AtWrite, AtRead, InCells, AtStep, AtTurn}
use Rattle.rules.specs.declared.block.Entry.{Entry}
use Rattle.rules.specs.declared.block.Versions.{Versions}
use Rattle.rules.specs.declared.block.Checkpoint.{Checkpoint}
use Rattle.rules.specs.declared.block.Block.{Block}
use Rattle.rules.specs.declared.versions.Version.{Version}
use Rattle.words.specs.declared.word.Word.{Word}
use Rattle.words.specs.declared.word.Word.TheVariants.{Idle, Wait, Stuck}
use Rattle.rules.specs.declared.own.Own.{Own}
use Rattle.rules.specs.declared.own.Around.{Around}
use Rattle.rules.specs.declared.own.Move.{Move}
use Rattle.rules.proofs.Laws.Moves.{back_shown}
use Rattle.rules.proofs.Laws.Own.{final_is}
use Rattle.rules.proofs.Laws.Words.{not_both}
use Rattle.rules.proofs.Laws.Words.{inside_of}
use Rattle.rules.proofs.Laws.Reading.{outside_full, outside_some, read_else, read_held, write_full, write_some}
use Rattle.rules.proofs.Laws.Instruct.{abandon_showing, step_abandon, step_nothing, step_read, step_reading, step_stop, step_stuck, step_write, stop_showing}
use Rattle.rules.proofs.Laws.Rules.{back_held, move_back, move_final, move_idle, move_marked, move_step, move_wait, return_is}
use Rattle.rules.proofs.Laws.Placed as P

-- a move that does not mark
quiet_done : (b : Block) (t : ℕ) (p : E.Moved Running) (x : Word) (o : Own) → Did b (t - 1) p (turned_by b t (still x o)) → Done b t p (still x o)
quiet_done b t p x o d = record { did = d; shown = not_both; few = not_both }

-- a turn that leaves the block
still_done : (b : Block) (t : ℕ) (p : E.Moved Running) (x : Word) → Did b (t - 1) p (record { word = x; block = b }) → Done b t p (still x (own_of b (t - 1)))
still_done b t p x d = quiet_done b t p x (own_of b (t - 1)) (subst (λ (r : Block). Did b (t - 1) p (record { word = x; block = r })) (sym (P.placed_still b t x)) d)

-- one move for another
moves_as : {o : Own} {Q : Block → ℕ → Type 0} {p : Block → ℕ → E.Moved Running} {m n : Move} → m ≡ n → Moves o Q p n → Moves o Q p m
moves_as {o = o} {Q = Q} {p = p} e = subst (λ (y : Move). Moves o Q p y) (sym e)

-- ---- WRITE
module _ (o : Own) (next : State) (e : Entry) where
  pub own_write_full : (m : Move) → 8 ≤ o.journal.size → m ≡ still Stuck o → Moves o AtWrite (λ b i. writing b i next e) m
  own_write_full m l w = moves_as w (record {
    status = inr refl;
    on = λ b t at q. subst (λ (x : Own). 8 ≤ x.journal.size → Done b t (writing b (t - 1) next e) (still Stuck x)) (sym at.own)
        (λ m. still_done b t _ Stuck (write_full b (t - 1) next e m)) l;
  })

  pub own_write : (m : Move) → o.journal.size < 8 → Wrote o next e m → Moves o AtWrite (λ b i. writing b i next e) m
  own_write m l w = record {
    status = inr (ap (λ (y : Move). y.own.status) w.move);
    on = λ b t at q. subst (λ (y : Move). Done b t (writing b (t - 1) next e) y) (sym w.move)
        (subst (λ (x : Own). x.journal.size < 8 → journal_of m.own.journal ≡ journal_of x.journal ++ (entry_of e ∷ []) → Done b t (writing b (t - 1) next e) (wrote x next m.own.journal))
        (sym at.own)
        (λ k j. quiet_done b t _ _ _
        (write_some b (t - 1) next e _ (inside_of b.count t at.some at.inside) k (P.becomes_write b t at.some at.inside at.whole.sized at.long next e m.own.journal j)))
        l w.journal);
  }

pub ruleset own_write_laws = (own_write_full, own_write)

-- ---- READ from outside
module _ (o : Own) (around : Around) (start t : ℕ) (next : State) (c : Cell) where
  pub own_outside_full : (m : Move) → 8 ≤ o.list.size → m ≡ still Stuck o → Moves o (AtRead around start t next c.0) (λ b i. outside b i c.0) m
  own_outside_full m l w = moves_as w (record {
    status = inr refl;
    on = λ b k at q. subst (λ (x : Own). 8 ≤ x.list.size → Done b k (outside b (k - 1) c.0) (still Stuck x)) (sym at.own)
        (λ m. still_done b k _ Stuck (outside_full b (k - 1) c.0 m)) l;
  })

  pub own_outside : (f : Version) (s : State) (m : Move) → o.list.size < 8 → version_of f ≡ found_in around.journals around.versions start c.0 (t - 1)
      → state_of s ≡ given ROOM f.value (state_of next) → Lists o s (record { cell = c; source = f.source; value = f.value }) m
      → Moves o (AtRead around start t next c.0) (λ b i. outside b i c.0) m
  own_outside f s m l ef es w = record { status = inr (ap (λ (y : Move). y.own.status) w.move); on = λ b k at q. subst (λ (y : Move). Done b k (outside b (k - 1) c.0) y) (sym w.move) (moved b k at q) }
    where
      moved : (b : Block) (k : ℕ) (at : At b k o) → AtRead around start t next c.0 b k
          → Done b k (outside b (k - 1) c.0) (listed o s m.own.list (record { state = o.state; writes = o.journal.size; listed = o.list.size }))
      moved b k at q =
          let found : version_of f ≡ found_in b.journals b.versions (get_or b.start c.0 0) c.0 (k - 1) = rw (q.around, q.start, ← q.ticket) at ef in
          subst
          (λ (x : Own). x.list.size < 8 → Adds x.list (record { cell = c; source = f.source; value = f.value }) m.own.list
          → Done b k (outside b (k - 1) c.0) (listed x s m.own.list (record { state = x.state; writes = x.journal.size; listed = x.list.size })))
          (sym at.own)
          (λ h a. quiet_done b k _ _ _
          (outside_some b (k - 1) c next s f _ (inside_of b.count k at.some at.inside) h found q.reading es
          (P.becomes_list b k at.some at.inside at.whole.sized at.long s _ m.own.list h a)))
          l w.adds

pub ruleset own_outside_laws = (own_outside_full, own_outside)

-- ---- back, on the parts
-- ---- READ
module _ (o : Own) (around : Around) (first t : ℕ) (next : State) (c : Cell) (x : Option ℕ)
    (ex : x ≡ or_else (last_value (journal_of o.journal) c.0) (listed_in o.list c.0)) where
  pub own_held : (v : ℕ) (s : State) (m : Move) → x ≡ Some v → state_of s ≡ given ROOM v (state_of next) → m ≡ stepped o s → Moves o (AtRead around first t next c.0) (λ b i. reading b i c.0) m
  own_held v s m e es w = moves_as w (record {
    status = inr refl;
    on = λ b k at q. subst
        (λ (y : Own). x ≡ or_else (last_value (journal_of y.journal) c.0) (listed_in y.list c.0) → Done b k (reading b (k - 1) c.0) (stepped y s)) (sym at.own)
        (λ h. quiet_done b k _ _ _
        (read_held b (k - 1) c.0 x v next s _ (inside_of b.count k at.some at.inside) h e q.reading es (P.becomes_step b k at.some at.inside at.whole.sized at.long s)))
        ex;
  })

  pub own_else : (m : Move) → x ≡ None → Moves o (AtRead around first t next c.0) (λ b i. outside b i c.0) m
      → Moves o (AtRead around first t next c.0) (λ b i. reading b i c.0) m
  own_else m e h = record {
    status = h.status;
    on = λ b k at q.
        let d = h.on b k at q in
        let held : x ≡ or_else (last_value (journal_of (get_or b.journals (k - 1) no_journal)) c.0) (listed_in (get_or b.reads (k - 1) no_reads) c.0) = rw at.own at ex in
        record { did = read_else b (k - 1) c.0 x _ held e d.did; shown = d.shown; few = d.few };
  }

pub ruleset own_read_laws = (own_held, own_else)

-- ---- one instruction, or the end
module _ (o : Own) (around : Around) (first t : ℕ) (done : Stepped) where
  pub own_nothing : (m : Move) → done.act ≡ NoAct → m ≡ stepped o done.state → Moves o (AtStep done around first t) stepping m
  own_nothing m e w = moves_as w (record {
    status = inr refl;
    on = λ b k at q. subst (λ (y : Own). Done b k (stepping b (k - 1)) (stepped y done.state)) (sym at.own)
        (quiet_done b k _ _ _
        (step_nothing b (k - 1) done q.steps _ e (inside_of b.count k at.some at.inside) (P.becomes_step b k at.some at.inside at.whole.sized at.long done.state)));
  })

  pub own_reads : (c : Cell) (m : Move) → done.act ≡ ReadAct c → Moves o (AtRead around first t done.state c.0) (λ b i. reading b i c.0) m → Moves o (AtStep done around first t) stepping m
  own_reads c m e g = record {
    status = g.status;
    on = λ b k at q.
        let d = g.on b k at (record { ticket = q.ticket; around = q.around; start = q.start c e; reading = step_reading b (k - 1) done q.steps c e }) in
        record { did = step_read b (k - 1) done q.steps c _ e d.did; shown = d.shown; few = d.few };
  }

  pub own_writes : (c : Cell) (v : ℕ) (m : Move) → done.act ≡ WriteAct c v → Moves o AtWrite (λ b i. writing b i done.state (record { cell = c; value = v })) m
      → Moves o (AtStep done around first t) stepping m
  own_writes c v m e g = record {
    status = g.status;
    on = λ b k at q. let d = g.on b k at (record {}) in record { did = step_write b (k - 1) done q.steps c v _ e d.did; shown = d.shown; few = d.few };
  }

  pub own_stuck : (m : Move) → done.act ≡ StuckAct → m ≡ still Stuck o → Moves o (AtStep done around first t) stepping m
  own_stuck m e w = moves_as w (record {
    status = inr refl;
    on = λ b k at q. subst (λ (y : Own). Done b k (stepping b (k - 1)) (still Stuck y)) (sym at.own)
        (still_done b k _ Stuck (step_stuck b (k - 1) done q.steps e));
  })

  -- the job of the block ends with these versions public
  ends : (new : Versions) (b : Block) (k : ℕ) (at : At b k o) → Showing (get_or b.journals (k - 1) no_journal) new
      → Did b (k - 1) (stepping b (k - 1)) (turned_by b k (ended (own_of b (k - 1)) new)) → Done b k (stepping b (k - 1)) (ended o new)
  ends new b k at s d =
      subst (λ (y : Own). Done b k (stepping b (k - 1)) (ended y new)) (sym at.own)
      (record { did = d; shown = λ e. s; few = λ e. at.whole.sized.lists.few (k - 1) (inside_of b.count k at.some at.inside) })

  pub own_stop : (new : Versions) (m : Move) → done.act ≡ StopAct → versions_of new ≡ published (journal_of o.journal) → m ≡ ended o new → Moves o (AtStep done around first t) stepping m
  own_stop new m e v w = moves_as w (record {
    status = inl (omega arith);
    on = λ b k at q.
        let u : versions_of new ≡ published (journal_of (get_or b.journals (k - 1) no_journal)) = rw at.own at v in
        ends new b k at (stop_showing b k new at.whole at.some at.inside u)
        (step_stop b (k - 1) done q.steps new _ e (inside_of b.count k at.some at.inside) u (P.becomes_end b k at.some at.inside at.whole.sized at.long new));
  })

  pub own_abandon : (new : Versions) (m : Move) → done.act ≡ AbandonAct → versions_of new ≡ [] → m ≡ ended o new → Moves o (AtStep done around first t) stepping m
  own_abandon new m e v w = moves_as w (record {
    status = inl (omega arith);
    on = λ b k at q.
        ends new b k at (abandon_showing b k new at.whole at.some at.inside v)
        (step_abandon b (k - 1) done q.steps new _ e (inside_of b.count k at.some at.inside) v (P.becomes_end b k at.some at.inside at.whole.sized at.long new));
  })

pub ruleset own_step_laws = (own_nothing, own_reads, own_writes, own_stuck, own_stop, own_abandon)

-- ---- the cell that an instruction reads
-- an instruction of the machine reads cells of the table alone
pub steps_cells : (is : List Instruction) (s : State) (done : Stepped) → StepsIn is s done → InCells done
steps_cells is s done h = record {
  low = λ c e. box_promise.cell_read (running_of is s) c.0 (sym (ap (in_job is) h.steps.asks) ∙ ap (λ (y : CodeAct). in_job is (act_of y (state_of done.state))) e);
}

-- ---- the rules, in order
module _ (step : Stepped) (o : Own) (around : Around) (first : ℕ) (c : Checkpoint) (t : ℕ) where
  pub own_idle : (m : Move) → 2 ≤ o.status → m ≡ still Idle o → Moves o (AtTurn step around first c t) moving m
  own_idle m l w = moves_as w (record {
    status = inr refl;
    on = λ b k at q. subst (λ (y : Own). 2 ≤ y.status → Done b k (moving b (k - 1)) (still Idle y)) (sym at.own)
        (λ m. still_done b k _ Idle (move_idle b (k - 1) m)) l;
  })

  pub own_on : (m : Move) → o.list.mark ≡ 255 → o.status ≡ 0 → Moves o (AtStep step around first t) stepping m → Moves o (AtTurn step around first c t) moving m
  own_on m em es g = record {
    status = g.status;
    on = λ b k at q.
        let d = g.on b k at q.step in
        record { did = move_step b (k - 1) _ (rw at.own at em) (rw at.own at es) d.did; shown = d.shown; few = d.few };
  }

  module _ (low : o.status < 2) (some : o.status ≡ 0 → ⊥) (em : o.list.mark ≡ 255) (x : Bool) (ex : x ≡ list_all (λ (s : ℕ). leb 2 s) (take (t - 1) around.status)) where
    seen : (b : Block) (k : ℕ) → At b k o → AtStep step around first t b k → x ≡ final_below b.status (k - 1)
    seen b k at q = let e : x ≡ list_all (λ (s : ℕ). leb 2 s) (take (k - 1) b.status) = rw (q.around, ← q.ticket) at ex in
        e ∙ final_is b.status (k - 1) (omega (arith, at.long.status, at.inside, at.whole.sized.count))

    pub own_final : (r : Move) → x ≡ true → r ≡ settled_own o → Moves o (AtTurn step around first c t) moving r
    own_final r e w = moves_as w (record {
      status = inl (omega arith);
      on = λ b k at q.
          let inside = inside_of b.count k at.some at.inside in
          subst (λ (y : Own). y.status < 2 → (y.status ≡ 0 → ⊥) → y.list.mark ≡ 255 → Done b k (moving b (k - 1)) (settled_own y)) (sym at.own)
          (λ l n m. quiet_done b k _ _ _ (move_final b (k - 1) _ inside l n m x (seen b k at q.step) e (P.becomes_final b k at.some at.inside at.whole.sized at.long))) low some em;
    })

    pub own_wait : (r : Move) → x ≡ false → r ≡ still Wait o → Moves o (AtTurn step around first c t) moving r
    own_wait r e w = moves_as w (record {
      status = inr refl;
      on = λ b k at q.
          let inside = inside_of b.count k at.some at.inside in
          subst (λ (y : Own). y.status < 2 → (y.status ≡ 0 → ⊥) → y.list.mark ≡ 255 → Done b k (moving b (k - 1)) (still Wait y)) (sym at.own)
          (λ l n m. still_done b k _ Wait (move_wait b (k - 1) inside l n m x (seen b k at q.step) e)) low some em;
    })

  pub own_back : (m : Move) → o.status < 2 → (o.list.mark ≡ 255 → ⊥) → Goes o c m → Moves o (AtTurn step around first c t) moving m
  own_back m l n g = record { status = inl (let e : m.own.status ≡ 0 = ap (λ (y : Move). y.own.status) g.move in omega (arith, e)); on = λ b k at q. subst (λ (y : Move). Done b k (moving b (k - 1)) y) (sym g.move) (back b k at q) }
    where
      v : Versions
      v = m.own.versions

      back : (b : Block) (k : ℕ) (at : At b k o) → AtTurn step around first c t b k
          → Done b k (moving b (k - 1)) (went_back o c.state (record { entries = o.journal.entries; size = c.writes }) v (record { reads = o.list.reads; size = c.listed; mark = 255 }))
      back b k at q =
          subst
          (λ (y : Own). y.status < 2 → (y.list.mark ≡ 255 → ⊥) → versions_of v ≡ withdrawn c.writes (versions_of y.versions)
          → Done b k (moving b (k - 1)) (went_back y c.state (record { entries = y.journal.entries; size = c.writes }) v (record { reads = y.list.reads; size = c.listed; mark = 255 })))
          (sym at.own) (go b k at q) l n g.versions
        where
          go : (b : Block) (k : ℕ) (at : At b k o) → AtTurn step around first c t b k → get_or b.status (k - 1) 0 < 2 → ((get_or b.reads (k - 1) no_reads).mark ≡ 255 → ⊥)
              → versions_of v ≡ withdrawn c.writes (versions_of (get_or b.versions (k - 1) no_versions))
              → Done b k (moving b (k - 1))
              (went_back (own_of b (k - 1)) c.state (record { entries = (get_or b.journals (k - 1) no_journal).entries; size = c.writes }) v
              (record { reads = (get_or b.reads (k - 1) no_reads).reads; size = c.listed; mark = 255 }))
          go b k at q low some w =
              let inside = inside_of b.count k at.some at.inside in
              let marked = move_marked b k at.whole at.some at.inside some in
              let same : c ≡ get_or b.checkpoints (8 * (k - 1) + (get_or b.reads (k - 1) no_reads).mark) no_checkpoint = rw (lt-leb 8 (get_or b.reads (k - 1) no_reads).mark marked.low) at q.back in
              let held : Held b (k - 1) c = rw same (back_held b k at.whole at.some at.inside marked) in
              record {
                did = move_back b (k - 1) _ low some
                    (return_is b (k - 1) _ inside marked (rw (← same) (P.becomes_back b k at.some at.inside at.whole.sized at.long c v held w)));
                shown = λ e. back_shown b k _ v c at.whole.sized held at.some at.inside refl w;
                few = λ e. omega (arith, held.listed, at.whole.sized.lists.few (k - 1) inside);
              }

pub ruleset own_turn_laws = (own_idle, own_on, own_final, own_wait, own_back)
