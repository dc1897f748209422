-- A turn reads its job's parts from the block and stores the parts that the rules made of them: where the ticket is the block's and
-- the block fits, what is stored is the block of the plain turn.
use mathlib.Core.Path.{◌≡◌, refl, ap, sym, subst, ◌∙◌}
use mathlib.Core.Bool.{Bool, true, false}
use Rattle.std.specs.Prelude.{Option, None, Some}
use mathlib.Core.Logic.{◌⊎◌, inl, inr}
use mathlib.Core.List.{List}
use Prim.Native.Nat.{ℕ, zero, suc, ◌-◌, ◌≤◌, ◌<◌}
use native.Mathlib.Omega.{arith}
use native.Mathlib.Decide.{ℕ_discrete, dec_lt}
use lib.ListN.{length, get_or, set, length-set}
use lib.Seq.{get_or-set_same, get_or-set_other}
use borrow.Author.Tests.{eq-eqb, ne_eqb, lt-ltb}
use Rattle.theory.specs.Engine as E
use Rattle.machine.specs.Limits.{LONGEST}
use Rattle.machine.specs.declared.step.Stepped.{Stepped}
use Rattle.theory.proofs.Sizes.{turn_fits}
use Rattle.rules.specs.Box.{box, box_promise, limits}
use Rattle.rules.specs.Program.{no_program}
use Rattle.rules.specs.View.{no_reads}
use Rattle.rules.specs.Block.{code_at, no_state, no_checkpoint, block_of}
use Rattle.rules.specs.Steps.{StepsIn}
use Rattle.rules.specs.Marks.{mark_reads, sweep}
use Rattle.rules.specs.Fitting.{count_fit}
use Rattle.rules.specs.Turn.{moving, foreign, Did, Keeps, Turns, Whole}
use Rattle.rules.specs.Own.{still, slot_at, parts_at, own_of, shows_of, marked_by, placed, stored_at, Long, Done, Moves, around_of, AtTurn, Asks, Ready, MayMark}
use Rattle.turns.specs.Change.{refusing, index_if, MayMove, MovesBy, MovesIf, change_by, Changes, TurnsIn}
use Rattle.rules.specs.declared.block.Reads.{Reads}
use Rattle.rules.specs.declared.block.Block.{Block}
use Rattle.rules.specs.declared.block.Turned.{Turned}
use Rattle.rules.specs.declared.marks.Shows.{Shows}
use Rattle.rules.specs.declared.own.Own.{Own}
use Rattle.rules.specs.declared.own.Around.{Around}
use Rattle.rules.specs.declared.own.Move.{Move}
use Rattle.turns.specs.declared.turn.Change.{Change}
use Rattle.words.specs.declared.word.Word.{Word}
use Rattle.rules.proofs.Laws.Words.{not_both}
use Rattle.rules.proofs.Laws.Words.{inside_of}
use Rattle.rules.proofs.Laws.Reading.{below_showing}
use Rattle.rules.proofs.Laws.Rules.{idle_leaves}
use Rattle.turns.proofs.Laws.Turn.{whole_fit, not_refused, turn_refused, turn_taken}
use Rattle.rules.proofs.Laws.Placed.{stored_still}

-- ---- whose ticket
pub own_ticket : (n t : ℕ) → foreign n t ≡ false → (0 < t) × (t ≤ n)
own_ticket n t e = go (ℕ_discrete t 0) (dec_lt n t)
  where
    go : Dec (t ≡ 0) → Dec (n < t) → (0 < t) × (t ≤ n)
    go (yes q) l = not_both (sym e ∙ rw (eq-eqb t 0 q) refl)
    go (no q) (yes l) = not_both (sym e ∙ rw (ne_eqb t 0 q, lt-ltb n t l) refl)
    go (no q) (no l) = (omega arith, omega arith)

length_sweep : (f : Reads → Reads) (k n : ℕ) (ls : List Reads) → length (sweep f k n ls) ≡ length ls
unfolding sweep
length_sweep f k zero ls = refl
length_sweep f k (suc n) ls = length_sweep f (suc k) n _ ∙ length-set ls k (f (get_or ls k no_reads))

length_marked : (x : Bool) (ls : List Reads) (n : ℕ) (old new : Shows) (t : ℕ) → length (marked_by x ls n old new t) ≡ length ls
length_marked true ls n old new t = length_sweep (mark_reads old new t) t (n - t) ls
length_marked false ls n old new t = refl

pub few_tickets : (b : Block) (t : ℕ) → foreign b.count t ≡ false → E.block_fits limits box (block_of b) ≡ true → (0 < t) × (t ≤ 16)
few_tickets b t mine fit = let own = own_ticket b.count t mine in (own.0, omega (arith, own.1, count_fit b fit))

-- ---- the job's parts, as they stand in a block that fits
module _ (b : Block) (t : ℕ) (mine : foreign b.count t ≡ false) (fit : E.block_fits limits box (block_of b) ≡ true) where
  some : 0 < t
  some = (own_ticket b.count t mine).0

  inside : t ≤ b.count
  inside = (own_ticket b.count t mine).1

  inner : t - 1 < b.count
  inner = inside_of b.count t some inside

  whole : Whole b
  whole = whole_fit b fit

  -- the job stands at one of its instructions
  pub standing : (i : ℕ) → i ≡ t - 1 → ((get_or b.states i no_state).place.0 < (get_or b.jobs i no_program).size) × ((get_or b.jobs i no_program).size ≤ LONGEST)
  standing i ei = rw ei (whole.inside (t - 1) inner, whole.short (t - 1) inner)

  module _ (long : Long b) (i s : ℕ) (ei : i ≡ t - 1) (es : s ≡ slot_at i (get_or b.reads i no_reads).size) (own : Own) (eo : own ≡ parts_at b i s) where
    own_is : own ≡ own_of b (t - 1)
    own_is = rw (eo, es, ei) refl

    pub may_move : MayMove b t i own
    may_move = record { mine = mine; fit = fit; index = ei; own = rw (← es) eo }

    module _ (k : ℕ) (ek : k ≡ slot_at i (get_or b.reads i no_reads).mark) (around : Around) (ea : around ≡ around_of b) where
      pub ready : Ready own around t
      ready = rw (own_is, ea) (record {
        some = some;
        few = omega (arith, inside, whole.sized.count);
        showing = whole.sized.showing.showing (t - 1) inner;
        list = whole.sized.lists.few (t - 1) inner;
        below = below_showing b t whole.sized some inside;
      })

      pub moved : (step : Stepped) → StepsIn (code_at b i) (get_or b.states i no_state) step → (c : ℕ) → Asks step c
          → (m : Move) → Moves own (AtTurn step around (get_or b.start c 0) (get_or b.checkpoints k no_checkpoint) t) moving m → MovesBy b t own m
      moved step steps c asks m moves = record {
        status = moves.status;
        done = moves.on b t (record { some = some; inside = inside; whole = whole; long = long; own = own_is })
            (record {
              step = record { ticket = refl; around = ea; steps = rw ei at steps; start = λ d e. ap (λ (x : ℕ). get_or b.start x 0) (asks.cell d e) };
              back = rw (ek, ei) refl;
            });
      }

    module _ (m : Move) (by : MovesBy b t own m) where
      done : Done b t (moving b (t - 1)) m
      done = by.done

      -- where the move marks, the lists and what the job shows are fit for it
      pub may_mark : MayMark m own b.reads b.count i
      may_mark = record {
        count = λ e. whole.sized.count;
        lists = λ e. record { few = λ j l. few e j l (ℕ_discrete j i) };
        before = λ e. rw own_is (whole.sized.showing.showing (t - 1) inner);
        after = λ e. done.shown e;
      }
        where
          few : m.marks ≡ true → (j : ℕ) → j < b.count → Dec (j ≡ i) → (get_or (set b.reads i m.own.list) j no_reads).size ≤ 8
          few e j l (yes q) = rw (q, get_or-set_same b.reads i m.own.list no_reads (omega (arith, ei, inner, long.reads, whole.sized.count))) (done.few e)
          few e j l (no n) = rw (get_or-set_other b.reads i j m.own.list no_reads n) (whole.sized.lists.few j l)

      module _ (ls : List Reads) (el : ls ≡ marked_by m.marks (set b.reads i m.own.list) b.count (shows_of own) (shows_of m.own) t) where
        stored_is : placed b t m ≡ stored_at b i s m ls
        unfolding placed
        stored_is = rw (el, eo, es, ei) refl

        -- the job's status alone is stored: a final one as it was, and any other as the rules say
        stored_keeps : Keeps b (stored_at b i s m ls)
        stored_keeps = record { programs = refl; final = λ k l. final k l (ℕ_discrete k i); other = λ k l. other k l (ℕ_discrete k i) }
          where
            final : (k : ℕ) → 2 ≤ get_or b.status k 0 → Dec (k ≡ i) → get_or (set b.status i m.own.status) k 0 ≡ get_or b.status k 0
            final k l (yes q) = ap (λ (r : Block). get_or r.status k 0) (sym stored_is ∙ done.did.left (idle_leaves b (t - 1) (rw (q, ei) at l)))
            final k l (no n) = get_or-set_other b.status i k m.own.status 0 n

            stored : get_or b.status i 0 < 2 → (m.own.status ≤ 2) ⊎ (m.own.status ≡ own.status) → m.own.status ≤ 2
            stored l (inl h) = h
            stored l (inr e) = let same : m.own.status ≡ get_or b.status i 0 = e ∙ ap (λ (o : Own). o.status) eo in omega (arith, same, l)

            other : (k : ℕ) → get_or b.status k 0 < 2 → Dec (k ≡ i) → get_or (set b.status i m.own.status) k 0 ≤ 2
            other k l (yes q) =
                rw (q, get_or-set_same b.status i m.own.status 0 (omega (arith, ei, inner, long.status, whole.sized.count))) (stored (rw q at l) by.status)
            other k l (no n) = rw (get_or-set_other b.status i k m.own.status 0 n) (omega arith)

        pub stored_turn : Turns b t (record { word = m.word; block = stored_at b i s m ls })
        stored_turn =
            turn_taken b t _ mine some inside fit
            (subst (λ (r : Block). Did b (t - 1) (moving b (t - 1)) (record { word = m.word; block = r })) stored_is done.did) stored_keeps

        pub stored_long : Long (stored_at b i s m ls)
        stored_long = record {
          start = long.start;
          states = length-set b.states i m.own.state ∙ long.states;
          status = length-set b.status i m.own.status ∙ long.status;
          journals = length-set b.journals i m.own.journal ∙ long.journals;
          versions = length-set b.versions i m.own.versions ∙ long.versions;
          reads = ap length el ∙ length_marked m.marks _ b.count (shows_of own) (shows_of m.own) t ∙ length-set b.reads i m.own.list ∙ long.reads;
          checkpoints = length-set b.checkpoints s m.own.slot ∙ long.checkpoints;
        }

        -- the turn in the block where it stands, which goes on fitting
        pub stored_in : TurnsIn b true t (record { block = stored_at b i s m ls; word = m.word })
        stored_in = record {
          turns = stored_turn;
          long = stored_long;
          fitting = sym (ap (E.block_fits limits box) stored_turn.block ∙ turn_fits limits box box_promise (block_of b) t fit);
        }

-- ---- a turn that may be refused
-- the parts of a refused turn are stored as they were
stored_refused : (b : Block) (t i s : ℕ) (fits : Bool) → fits ≡ E.block_fits limits box (block_of b) → (w : Word) → refusing b.count t fits ≡ Some w
    → (own : Own) → own ≡ parts_at b i s → (m : Move) → m ≡ still w own → (ls : List Reads)
    → ls ≡ marked_by m.marks (set b.reads i m.own.list) b.count (shows_of own) (shows_of m.own) t → Turns b t (record { word = m.word; block = stored_at b i s m ls })
stored_refused b t i s fits ef w q own eo m em ls el = rw (el, em, eo, stored_still b i s w) (turn_refused b t fits ef w q)

-- of a turn: whether it is refused, where its parts stand, the step that its job would take, and what became of the parts
module _ (b : Block) (t : ℕ) (fits : Bool) (ef : fits ≡ E.block_fits limits box (block_of b)) (refused : Option Word) (er : refused ≡ refusing b.count t fits) where
  mine_if : refused ≡ None → foreign b.count t ≡ false
  mine_if q = (not_refused fits b.count t (sym er ∙ q)).0

  fit_if : refused ≡ None → E.block_fits limits box (block_of b) ≡ true
  fit_if q = sym ef ∙ (not_refused fits b.count t (sym er ∙ q)).1

  pub few_if : refused ≡ None → (0 < t) × (t ≤ 16)
  few_if q = few_tickets b t (mine_if q) (fit_if q)

  index_own : (i : ℕ) → i ≡ index_if refused t → refused ≡ None → i ≡ t - 1
  index_own i ei q = ei ∙ rw q refl

  module _ (long : Long b) (i s : ℕ) (ei : i ≡ index_if refused t) (es : s ≡ slot_at i (get_or b.reads i no_reads).size) (own : Own) (eo : own ≡ parts_at b i s) where
    pub may_move_if : refused ≡ None → MayMove b t i own
    may_move_if q = may_move b t (mine_if q) (fit_if q) long i s (index_own i ei q) es own eo

    module _ (m : Move) (moves : MovesIf refused b t own m) where
      pub may_mark_if : MayMark m own b.reads b.count i
      may_mark_if = at refused refl
        where
          at : (x : Option Word) → refused ≡ x → MayMark m own b.reads b.count i
          at (Some w) q =
              let quiet : m.marks ≡ true → ⊥ = λ e. let still : m.marks ≡ false = rw (moves.stays w q) refl in not_both (sym still ∙ e) in
              record { count = λ e. absurd (quiet e); lists = λ e. absurd (quiet e); before = λ e. absurd (quiet e); after = λ e. absurd (quiet e) }
          at None q = may_mark b t (mine_if q) (fit_if q) long i s (index_own i ei q) es own eo m (moves.moves q)

      turned_if : (ls : List Reads) → ls ≡ marked_by m.marks (set b.reads i m.own.list) b.count (shows_of own) (shows_of m.own) t
          → Turns b t (record { word = m.word; block = stored_at b i s m ls })
      turned_if ls el = go refused refl
        where
          go : (x : Option Word) → refused ≡ x → Turns b t (record { word = m.word; block = stored_at b i s m ls })
          go (Some w) q = stored_refused b t i s fits ef w (sym er ∙ q) own eo m (moves.stays w q) ls el
          go None q = stored_turn b t (mine_if q) (fit_if q) long i s (index_own i ei q) es own eo m (moves.moves q) ls el

      pub changes_if : i < 16 → s < 128 → (r : Change) → r ≡ change_by i s m (marked_by m.marks (set b.reads i m.own.list) b.count (shows_of own) (shows_of m.own) t) → Changes b t r
      changes_if li ls r e = rw e (record { index = rw (← ef, ← er) ei; slot = rw (← ef, ← er, ← ei) es; inside = li; within = ls; turns = turned_if _ refl })

-- ---- a turn in the block where it stands, which may be refused
module _ (b : Block) (fits : Bool) (t : ℕ) (ef : fits ≡ E.block_fits limits box (block_of b)) (long : Long b) where
  pub in_refused : (w : Word) → Some w ≡ refusing b.count t fits → TurnsIn b fits t (record { block = b; word = w })
  in_refused w q = record { turns = turn_refused b t fits ef w (sym q); long = long; fitting = ef }

  pub in_own : None ≡ refusing b.count t fits → (foreign b.count t ≡ false) × (E.block_fits limits box (block_of b) ≡ true)
  in_own q = let own = not_refused fits b.count t (sym q) in (own.0, sym ef ∙ own.1)

  pub in_taken : None ≡ refusing b.count t fits → (r : Turned) → TurnsIn b true t r → TurnsIn b fits t r
  in_taken q r u = rw ((not_refused fits b.count t (sym q)).1) u
