-- WRITE and READ: there is room exactly where the plain rules have it, and a READ takes what the job itself holds before it looks outside.
use mathlib.Core.Path.{◌≡◌, refl, ap, sym, subst, ◌∙◌}
use mathlib.Core.Bool.{true}
use Rattle.std.specs.Prelude.{Option, None, Some}
use mathlib.Core.List.{List}
use Prim.Native.Nat.{ℕ, zero, suc, ◌+◌, ◌-◌, ◌*◌, ◌≤◌, ◌<◌}
use native.Mathlib.Omega.{arith}
use lib.Dec.{ltb}
use lib.ListN.{length, get_or, drop, drop_of_length-le}
use borrow.Author.Tests.{lt-ltb, le-ltb}
use Rattle.theory.specs.Lists.{tab, length_tab, get_d_tab, drop_tab}
use Rattle.theory.specs.Word as W
use Rattle.theory.specs.Engine as E
use Rattle.theory.specs.Engine.{or_else, last_value, listed_value, step_to, write_to, list_to}
use Rattle.theory.proofs.Versions.{search_same}
use Rattle.machine.specs.Limits.{ROOM, FEW}
use Rattle.machine.specs.Machine.{State as Plain, Running, given}
use Rattle.machine.specs.View.{state_of}
use Rattle.machine.specs.declared.counts.Cell.{Cell}
use Rattle.machine.specs.declared.job.State.{State}
use Rattle.rules.specs.Box.{box, limits}
use Rattle.rules.specs.View.{entry_of, journal_of, length_journal, version_of, version_at, found_in, no_journal, no_read, no_reads, ShowingBelow}
use Rattle.rules.specs.Block.{code_at, no_checkpoint, running_of, read_of, reads_of, job_of, block_of}
use Rattle.rules.specs.Becomes.{Becomes}
use Rattle.rules.specs.Moves.{listing_of, Sized}
use Rattle.rules.specs.Turn.{listed_from, listed_in, jobs, cells, outside, reading, writing, Did, Reading}
use Rattle.rules.specs.declared.block.Entry.{Entry}
use Rattle.rules.specs.declared.block.Read.{Read}
use Rattle.rules.specs.declared.block.Reads.{Reads}
use Rattle.rules.specs.declared.block.Block.{Block}
use Rattle.rules.specs.declared.versions.Version.{Version}
use Rattle.words.specs.declared.word.Word.TheVariants.{Step, Stuck}
use Rattle.rules.specs.declared.block.Turned.{Turned}
use Rattle.rules.proofs.Laws.Words.{step_did, stuck_did}

-- ---- WRITE
module _ (b : Block) (i : ℕ) (next : State) (e : Entry) where
  long : length (job_of b i).journal ≡ (get_or b.journals i no_journal).size
  unfolding job_of
  long = length_journal (get_or b.journals i no_journal)

  pub write_full : 8 ≤ (get_or b.journals i no_journal).size → Did b i (writing b i next e) (record { word = Stuck; block = b })
  unfolding writing
  write_full l = rw (long, le-ltb _ _ l) (stuck_did b i (job_of b i))

  pub write_some : (r : Block) → i < b.count → (get_or b.journals i no_journal).size < 8 → Becomes b r i (write_to (job_of b i) (running_of (code_at b i) next) (entry_of e))
      → Did b i (writing b i next e) (record { word = Step; block = r })
  unfolding writing
  write_some r inside l h = rw (long, lt-ltb _ _ l) (step_did b i inside r (write_to (job_of b i) (running_of (code_at b i) next) (entry_of e)) h)

-- ---- READ from outside
version_is : (b : Block) (k c : ℕ) → version_at b.journals b.versions k c ≡ E.version (job_of b k) c
unfolding version_at job_of E.shown
version_is b k c = refl

pub job_at_lem : (b : Block) (k : ℕ) → k < b.count → jobs b k ≡ job_of b k
unfolding block_of
job_at_lem b k l = get_d_tab b.count (job_of b) k (E.nobody limits box) l

cell_at : (b : Block) (c : ℕ) → cells b c ≡ get_or b.start c 0
unfolding block_of
cell_at b c = refl

pub found_is : (b : Block) (i c : ℕ) → i ≤ b.count → found_in b.journals b.versions (get_or b.start c 0) c i ≡ E.find (cells b) (jobs b) c i
unfolding found_in
found_is b i c l = rw (cell_at b c) (search_same (get_or b.start c 0) (λ k. E.version (jobs b k) c) (λ k. version_at b.journals b.versions k c) i at)
  where
    at : (k : ℕ) → k < i → version_at b.journals b.versions k c ≡ E.version (jobs b k) c
    at k m = version_is b k c ∙ ap (λ (j : E.Job Running). E.version j c) (sym (job_at_lem b k (omega arith)))

pub below_showing : (b : Block) (t : ℕ) → Sized b → 0 < t → t ≤ b.count → ShowingBelow b.journals b.versions (t - 1)
below_showing b t z p l = record { showing = λ k m. z.showing.showing k (omega arith) }

module _ (b : Block) (i : ℕ) where
  list_long : length (job_of b i).reads ≡ (get_or b.reads i no_reads).size
  unfolding job_of reads_of
  list_long = length_tab (get_or b.reads i no_reads).size _

  listing_is : (x : Read) → listing_of b i x ≡ E.listing (job_of b i) x.cell.0 (x.source.0, x.value)
  unfolding job_of reads_of
  listing_is x = rw (length_journal (get_or b.journals i no_journal), length_tab (get_or b.reads i no_reads).size _) refl

  pub outside_full : (c : ℕ) → 8 ≤ (get_or b.reads i no_reads).size → Did b i (outside b i c) (record { word = Stuck; block = b })
  unfolding outside
  outside_full c l = rw (list_long, le-ltb _ _ l) (stuck_did b i (job_of b i))

  -- a state that was given its value
  given_at : (next s : State) (c v : ℕ) → Reading b i next c → state_of s ≡ given ROOM v (state_of next) → running_of (code_at b i) s ≡ box.given (job_of b i).state v
  given_at next s c v h e = ap (λ (x : Plain). record { code = code_at b i; state = x }) e ∙ h.value v

  pub outside_some : (c : Cell) (next s : State) (f : Version) (r : Block) → i < b.count → (get_or b.reads i no_reads).size < 8
      → version_of f ≡ found_in b.journals b.versions (get_or b.start c.0 0) c.0 i → Reading b i next c.0 → state_of s ≡ given ROOM f.value (state_of next)
      → Becomes b r i (list_to (job_of b i) (running_of (code_at b i) s) (listing_of b i (record { cell = c; source = f.source; value = f.value })))
      → Did b i (outside b i c.0) (record { word = Step; block = r })
  unfolding outside version_of
  outside_some c next s f r inside l ef h es k =
      rw (room, ← found) (step_did b i inside r (list_to (job_of b i) (box.given (job_of b i).state f.value) (E.listing (job_of b i) c.0 (f.source.0, f.value)))
      (subst (λ (j : E.Job Running). Becomes b r i j) same k))
    where
      room : ltb (length (job_of b i).reads) FEW ≡ true
      room = rw list_long (lt-ltb _ _ l)

      found : (f.source.0, f.value) ≡ E.find (cells b) (jobs b) c.0 i
      found = ef ∙ found_is b i c.0 (omega arith)

      same : list_to (job_of b i) (running_of (code_at b i) s) (listing_of b i (record { cell = c; source = f.source; value = f.value }))
          ≡ list_to (job_of b i) (box.given (job_of b i).state f.value) (E.listing (job_of b i) c.0 (f.source.0, f.value))
      same = rw (given_at next s c.0 f.value h es, listing_is (record { cell = c; source = f.source; value = f.value })) refl

-- ---- READ
listed_rest : (c : ℕ) (rs : Reads) (f : Read → ℕ → E.Read Running) → ((x : Read) (k : ℕ) → ((f x k).cell ≡ x.cell.0) × ((f x k).value ≡ x.value)) → (k m : ℕ) → k + m ≡ rs.size
    → listed_value (drop k (tab rs.size (λ i. f (get_or rs.reads i no_read) i))) c ≡ listed_from rs c k m
unfolding listed_from
listed_rest c rs f h k zero e = ap (λ (l : List (E.Read Running)). listed_value l c) (drop_of_length-le (tab rs.size _) {i = k} (rw (length_tab rs.size (λ i. f (get_or rs.reads i no_read) i)) (omega arith)))
listed_rest c rs f h k (suc m) e =
    ap (λ (l : List (E.Read Running)). listed_value l c) (drop_tab rs.size (λ i. f (get_or rs.reads i no_read) i) k (omega arith))
    ∙ rw ((h (get_or rs.reads k no_read) k).0, (h (get_or rs.reads k no_read) k).1, listed_rest c rs f h (suc k) m (omega arith)) refl

module _ (b : Block) (i c : ℕ) where
  listed_is : listed_value (job_of b i).reads c ≡ listed_in (get_or b.reads i no_reads) c
  unfolding job_of reads_of
  listed_is = listed_rest c (get_or b.reads i no_reads) (λ x k. read_of (code_at b i) x (get_or b.checkpoints (8 * i + k) no_checkpoint)) (λ x k. (refl, refl)) 0 (get_or b.reads i no_reads).size (omega arith)

  abbrev holds : Option ℕ
  holds = or_else (last_value (journal_of (get_or b.journals i no_journal)) c) (listed_in (get_or b.reads i no_reads) c)

  own_is : or_else (last_value (job_of b i).journal c) (listed_value (job_of b i).reads c) ≡ holds
  unfolding job_of
  own_is = ap (or_else (last_value (journal_of (get_or b.journals i no_journal)) c)) listed_is

  own_step : (a o : Option ℕ) (v : ℕ) (f : ℕ × ℕ) → Some v ≡ or_else a o → E.read_step FEW box (cells b) (job_of b i) c a o f ≡ E.moved W.step (step_to (job_of b i) (box.given (job_of b i).state v))
  own_step (Some x) o v f e = let w : v ≡ x = cc in rw w refl
  own_step None (Some x) v f e = let w : v ≡ x = cc in rw w refl
  own_step None None v f e = absurd (let z : ◌≡◌ {A = ℕ} 0 1 = cc in omega arith)

  own_none : (a o : Option ℕ) (f : ℕ × ℕ) → None ≡ or_else a o → E.read_step FEW box (cells b) (job_of b i) c a o f ≡ E.read_step FEW box (cells b) (job_of b i) c None None f
  own_none (Some x) o f e = absurd (let z : ◌≡◌ {A = ℕ} 0 1 = cc in omega arith)
  own_none None (Some x) f e = absurd (let z : ◌≡◌ {A = ℕ} 0 1 = cc in omega arith)
  own_none None None f e = refl

  pub read_held : (x : Option ℕ) (v : ℕ) (next s : State) (r : Block) → i < b.count → x ≡ holds → x ≡ Some v → Reading b i next c → state_of s ≡ given ROOM v (state_of next)
      → Becomes b r i (step_to (job_of b i) (running_of (code_at b i) s)) → Did b i (reading b i c) (record { word = Step; block = r })
  unfolding reading
  read_held x v next s r inside ex q h es k =
      rw (own_step (last_value (job_of b i).journal c) (listed_value (job_of b i).reads c) v (E.find (cells b) (jobs b) c i) (sym q ∙ ex ∙ sym own_is))
      (step_did b i inside r (step_to (job_of b i) (box.given (job_of b i).state v)) (subst (λ (g : Running). Becomes b r i (step_to (job_of b i) g)) (given_at b i next s c v h es) k))

  pub read_else : (x : Option ℕ) (r : Turned) → x ≡ holds → x ≡ None → Did b i (outside b i c) r → Did b i (reading b i c) r
  unfolding reading outside
  read_else x r ex q d = rw (own_none (last_value (job_of b i).journal c) (listed_value (job_of b i).reads c) (E.find (cells b) (jobs b) c i) (sym q ∙ ex ∙ sym own_is)) d

pub few_entries : (b : Block) (t : ℕ) → Sized b → 0 < t → t ≤ b.count → (get_or b.journals (t - 1) no_journal).size ≤ 8
few_entries b t z p l = (z.showing.showing (t - 1) (omega arith)).entries
