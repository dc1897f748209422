-- The moves: a store at index i changes that job alone, a sweep changes the marks above it, and these are the plain moves.
use mathlib.Core.Path.{◌≡◌, refl, ap, sym, ◌∙◌, fun_ext}
use mathlib.Core.Bool.{Bool, true, false, cond}
use Rattle.std.specs.Prelude.{Option, None, Some}
use mathlib.Core.List.{List, [], ◌∷◌, ◌++◌}
use Prim.Native.Nat.{ℕ, zero, suc, ◌+◌, ◌-◌, ◌*◌, ◌≤◌, ◌<◌}
use native.Mathlib.Omega.{arith}
use native.Mathlib.Numerals.{add-one}
use native.Mathlib.Decide.{ℕ_discrete}
use lib.Dec.{eqb, ltb}
use lib.ListN.{length, get_or, take, drop, set, length-set, drop_of_length-le}
use lib.Seq.{get_or-set_same, get_or-set_other}
use borrow.Author.Tests.{ne_eqb, eqb-false}
use Rattle.theory.specs.Lists.{tab, length_tab, get_d_tab, tab_same, take_tab, drop_tab}
use Rattle.theory.specs.Engine as E
use Rattle.theory.specs.Engine.{step_to, write_to, list_to, end_with, settle, go_back, earlier, first_struck, is_struck, next, withdrawn}
use Rattle.theory.specs.Every.{Every, every_at}
use Rattle.theory.proofs.Versions.{Below, shown_append, withdrawn_below}
use Rattle.machine.specs.Machine.{Running}
use Rattle.machine.specs.declared.counts.Ticket.{Ticket}
use Rattle.machine.specs.declared.instruction.Instruction.{Instruction}
use Rattle.machine.specs.declared.job.State.{State}
use Rattle.rules.specs.View.{entry_of, entries_of, journal_of, length_journal, number_at, number_low, versions_of, mark_of, mark_byte, no_journal, no_versions, no_read, no_reads, Showing}
use Rattle.rules.specs.Block.{code_at, no_state, no_checkpoint, running_of, checkpoint_of, read_of, reads_of, job_of}
use Rattle.rules.specs.Marks.{shown_in, struck_by, first_from, strikes_at, mark_by, mark_reads, sweep}
use Rattle.rules.specs.Becomes.{Becomes, quiet}
use Rattle.rules.specs.Moves.{listing_of, Sized, Held, Adds}
use Rattle.rules.specs.declared.block.Entry.{Entry}
use Rattle.rules.specs.declared.block.Journal.{Journal}
use Rattle.rules.specs.declared.block.Versions.{Versions}
use Rattle.rules.specs.declared.block.Checkpoint.{Checkpoint}
use Rattle.rules.specs.declared.block.Read.{Read}
use Rattle.rules.specs.declared.block.Reads.{Reads}
use Rattle.rules.specs.declared.block.Block.{Block}
use Rattle.rules.specs.declared.marks.Shows.{Shows}
use Rattle.rules.proofs.Laws.Versions.{length_versions}

module _ (b : Block) (i : ℕ) (inside : i < b.count) (few : b.count ≤ 16) where
  pub step_is : (s : State) → length b.states ≡ 16
      → Becomes b (record {
        start = b.start;
        count = b.count;
        jobs = b.jobs;
        states = set b.states i s;
        status = b.status;
        journals = b.journals;
        versions = b.versions;
        reads = b.reads;
        checkpoints = b.checkpoints;
      }) i (step_to (job_of b i) (running_of (code_at b i) s))
  unfolding job_of E.shown
  step_is s w =
      quiet b _ i _ inside refl refl (rw (get_or-set_same b.states i s no_state (omega arith)) refl)
      (λ k n m. rw (get_or-set_other b.states i k s no_state n) refl) (λ c. refl)

  pub settle_is : length b.status ≡ 16
      → Becomes b (record {
        start = b.start;
        count = b.count;
        jobs = b.jobs;
        states = b.states;
        status = set b.status i 2;
        journals = b.journals;
        versions = b.versions;
        reads = b.reads;
        checkpoints = b.checkpoints;
      }) i (settle (job_of b i))
  unfolding job_of E.shown
  settle_is w =
      quiet b _ i _ inside refl refl (rw (get_or-set_same b.status i 2 0 (omega arith)) refl)
      (λ k n m. rw (get_or-set_other b.status i k 2 0 n) refl) (λ c. refl)

-- versions that name entries
every_tab : (P : ℕ → Type 0) (n : ℕ) (f : ℕ → ℕ) → ((k : ℕ) → k < n → P (f k)) → Every P (tab n f)
every_tab P zero f h = tt
every_tab P (suc n) f h = every_snoc (tab n f) (f n) (every_tab P n f (λ k l. h k (omega arith))) (h n (omega arith))
  where
    every_snoc : (xs : List ℕ) (x : ℕ) → Every P xs → P x → Every P (xs ++ (x ∷ []))
    every_snoc [] x p q = (q, tt)
    every_snoc (y ∷ xs) x p q = (p.0, every_snoc xs x p.1 q)

pub showing_below : (j : Journal) (v : Versions) → Showing j v → Below (length (journal_of j)) (versions_of v)
unfolding versions_of
showing_below j v s = every_tab (λ x. x < length (journal_of j)) v.size (number_at v) (λ k l. rw (length_journal j, ← number_low v k (omega (arith, s.numbers))) (s.named k l))

pub write_is : (b : Block) (i : ℕ) (s : State) (e : Entry) (j : Journal) → i < b.count → Sized b → length b.states ≡ 16 → length b.journals ≡ 16
    → journal_of j ≡ journal_of (get_or b.journals i no_journal) ++ (entry_of e ∷ [])
    → Becomes b (record {
      start = b.start;
      count = b.count;
      jobs = b.jobs;
      states = set b.states i s;
      status = b.status;
      journals = set b.journals i j;
      versions = b.versions;
      reads = b.reads;
      checkpoints = b.checkpoints;
    }) i (write_to (job_of b i) (running_of (code_at b i) s) (entry_of e))
unfolding job_of E.shown
write_is b i s e j inside z ws wj q =
    let few = z.count in
    quiet b _ i _ inside refl refl
    (rw (get_or-set_same b.states i s no_state (omega arith), get_or-set_same b.journals i j no_journal (omega arith), q) refl)
    (λ k n m. rw (get_or-set_other b.states i k s no_state n, get_or-set_other b.journals i k j no_journal n) refl)
    (λ c. shown_append (journal_of (get_or b.journals i no_journal)) (entry_of e ∷ []) (versions_of (get_or b.versions i no_versions)) c
    (showing_below (get_or b.journals i no_journal) (get_or b.versions i no_versions) (z.showing.showing i inside)))

-- ---- a read is listed
module _ (b : Block) (i : ℕ) (x : Read) (c : Checkpoint) (l : Reads) (inside : i < b.count) (z : Sized b) (room : (get_or b.reads i no_reads).size < 8)
    (wc : length b.checkpoints ≡ 128) (added : Adds (get_or b.reads i no_reads) x l) where
  abbrev cs : List Checkpoint
  cs = set b.checkpoints (8 * i + (get_or b.reads i no_reads).size) c

  listed_own : (is : List Instruction) → reads_of is l cs i ≡ reads_of is (get_or b.reads i no_reads) b.checkpoints i ++ (read_of is x c ∷ [])
  unfolding reads_of
  listed_own is =
      let few = z.count in
      let wr = added.long in
      let at = (get_or b.reads i no_reads).size in
      rw (added.size, added.reads, add-one at, get_or-set_same (get_or b.reads i no_reads).reads at x no_read (omega arith), get_or-set_same b.checkpoints (8 * i + at) c no_checkpoint (omega arith))
      (ap (λ (rs : List (E.Read Running)). rs ++ (read_of is x c ∷ []))
      (tab_same at _ _ (λ k m. rw (get_or-set_other (get_or b.reads i no_reads).reads at k x no_read (λ q. omega arith), get_or-set_other b.checkpoints (8 * i + at) (8 * i + k) c no_checkpoint (λ q. omega arith)) refl)))

  listed_other : (is : List Instruction) (k : ℕ) → (k ≡ i → ⊥) → k < b.count → reads_of is (get_or b.reads k no_reads) cs k ≡ reads_of is (get_or b.reads k no_reads) b.checkpoints k
  unfolding reads_of
  listed_other is k ne m =
      tab_same (get_or b.reads k no_reads).size _ _
      (λ q h. rw (get_or-set_other b.checkpoints (8 * i + (get_or b.reads i no_reads).size) (8 * k + q) c no_checkpoint (λ e. apart i k (get_or b.reads i no_reads).size q ne room (few q h) e)) refl)
    where
      few : (q : ℕ) → q < (get_or b.reads k no_reads).size → q < 8
      few q h = omega (arith, z.lists.few k m)

      apart : (i k n q : ℕ) → (k ≡ i → ⊥) → n < 8 → q < 8 → 8 * k + q ≡ 8 * i + n → ⊥
      apart i k n q ne a b e = ne (omega arith)

pub list_is : (b : Block) (i : ℕ) (s : State) (x : Read) (l : Reads) → i < b.count → Sized b → (get_or b.reads i no_reads).size < 8
    → length b.states ≡ 16 → length b.reads ≡ 16 → length b.checkpoints ≡ 128 → Adds (get_or b.reads i no_reads) x l
    → Becomes b (record {
      start = b.start;
      count = b.count;
      jobs = b.jobs;
      states = set b.states i s;
      status = b.status;
      journals = b.journals;
      versions = b.versions;
      reads = set b.reads i l;
      checkpoints = set b.checkpoints (8 * i + (get_or b.reads i no_reads).size)
          (record { state = get_or b.states i no_state; writes = (get_or b.journals i no_journal).size; listed = (get_or b.reads i no_reads).size });
    })
    i (list_to (job_of b i) (running_of (code_at b i) s) (listing_of b i x))
unfolding job_of E.shown
list_is b i s x l inside z room ws wr wc added =
    let few = z.count in
    let c : Checkpoint = record { state = get_or b.states i no_state; writes = (get_or b.journals i no_journal).size; listed = (get_or b.reads i no_reads).size } in
    quiet b _ i _ inside refl refl
    (rw (get_or-set_same b.states i s no_state (omega arith), get_or-set_same b.reads i l no_reads (omega arith), listed_own b i x c l inside z room wc added (code_at b i), added.mark) refl)
    (λ k n m. rw (get_or-set_other b.states i k s no_state n, get_or-set_other b.reads i k l no_reads n, listed_other b i x c l inside z room wc added (code_at b k) k n m) refl)
    (λ q. refl)

-- ---- marks, on the code's structs and in the plain engine
module _ (g : E.Read Running → Bool) (n : ℕ) (h : ℕ → E.Read Running) where
  shift : ℕ → Option ℕ → Option ℕ
  shift k None = None
  shift k (Some m) = Some (k + m)

  shift_next : (k : ℕ) (o : Option ℕ) → shift k (next o) ≡ shift (suc k) o
  unfolding shift
  shift_next k None = refl
  shift_next k (Some m) = ap Some (let w : k + suc m ≡ suc k + m = omega arith in w)

  first_rest : (m k : ℕ) → k + m ≡ n → shift k (first_struck g (drop k (tab n h))) ≡ first_from (λ q. g (h q)) k m
  unfolding shift first_from
  first_rest zero k e = rw (drop_of_length-le (tab n h) {i = k} (rw (length_tab n h) (omega arith))) refl
  first_rest (suc m) k e = rw (drop_tab n h k (omega arith)) (go (g (h k)) (first_rest m (suc k) (omega arith)))
    where
      go : (t : Bool) → shift (suc k) (first_struck g (drop (suc k) (tab n h))) ≡ first_from (λ q. g (h q)) (suc k) m
          → shift k (cond t (Some 0) (next (first_struck g (drop (suc k) (tab n h))))) ≡ cond t (Some k) (first_from (λ q. g (h q)) (suc k) m)
      go true ih = ap Some (let w : k + 0 ≡ k = omega arith in w)
      go false ih = shift_next k (first_struck g (drop (suc k) (tab n h))) ∙ ih

  first_is : first_struck g (tab n h) ≡ first_from (λ q. g (h q)) 0 n
  unfolding shift
  first_is = go (first_struck g (tab n h)) (first_rest n 0 (omega arith))
    where
      go : (o : Option ℕ) → shift 0 o ≡ first_from (λ q. g (h q)) 0 n → o ≡ first_from (λ q. g (h q)) 0 n
      go None e = e
      go (Some m) e = ap Some (let w : m ≡ 0 + m = omega arith in w) ∙ e

-- a mark as a byte and back, where it is no 255
byte_back : (o : Option ℕ) → ((k : ℕ) → o ≡ Some k → k ≡ 255 → ⊥) → mark_of (mark_byte o) ≡ o
unfolding mark_of mark_byte
byte_back None h = refl
byte_back (Some k) h = rw (ne_eqb k 255 (h k refl)) refl

first_low : (f : ℕ → Bool) (k m q : ℕ) → first_from f k m ≡ Some q → q < k + m
unfolding first_from
first_low f k zero q e = absurd (let z : ◌≡◌ {A = ℕ} 0 1 = cc in omega arith)
first_low f k (suc m) q e = go (f k) e (first_low f (suc k) m q)
  where
    go : (t : Bool) → cond t (Some k) (first_from f (suc k) m) ≡ Some q → (first_from f (suc k) m ≡ Some q → q < suc k + m) → q < k + suc m
    go true e ih = let w : k ≡ q = cc in omega arith
    go false e ih = omega (arith, ih e)

earlier_byte : (o : Option ℕ) (m : ℕ) → ((k : ℕ) → o ≡ Some k → k < 8) → (q : ℕ) → earlier o (mark_of m) ≡ Some q → q ≡ 255 → ⊥
unfolding mark_of
earlier_byte o m h q e z = go o h (eqb m 255) refl e
  where
    go : (o : Option ℕ) → ((k : ℕ) → o ≡ Some k → k < 8) → (t : Bool) → eqb m 255 ≡ t → earlier o (cond t None (Some m)) ≡ Some q → ⊥
    go None h true w e = let y : ◌≡◌ {A = ℕ} 0 1 = cc in omega arith
    go None h false w e = let y : m ≡ q = cc in eqb-false m 255 w (y ∙ z)
    go (Some k) h true w e = let y : k ≡ q = cc in omega (arith, h k refl)
    go (Some k) h false w e = less (ltb k m) e
      where
        less : (t : Bool) → cond t (Some k) (Some m) ≡ Some q → ⊥
        less true e = let y : k ≡ q = cc in omega (arith, h k refl)
        less false e = let y : m ≡ q = cc in eqb-false m 255 w (y ∙ z)

-- the mark of a higher job after the sweep is the plain engine's
module _ (old new : Shows) (t : ℕ) (rs : Reads) (is : List Instruction) (cs : List Checkpoint) (k : ℕ) (few : rs.size ≤ 8) where
  mark_is : mark_of (mark_by old new t rs) ≡ earlier (first_struck (is_struck (shown_in old) (shown_in new) t) (reads_of is rs cs k)) (mark_of rs.mark)
  unfolding mark_by struck_by reads_of
  mark_is =
      byte_back (earlier (first_from (strikes_at old new t rs) 0 rs.size) (mark_of rs.mark))
      (earlier_byte (first_from (strikes_at old new t rs) 0 rs.size) rs.mark (λ q e. omega (arith, first_low (strikes_at old new t rs) 0 rs.size q e)))
      ∙ ap (λ (o : Option ℕ). earlier o (mark_of rs.mark)) (sym (first_is (is_struck (shown_in old) (shown_in new) t) rs.size (λ i. read_of is (get_or rs.reads i no_read) (get_or cs (8 * k + i) no_checkpoint))))

-- ---- the sweep, place by place
sweep_before : (f : Reads → Reads) (m k : ℕ) (rs : List Reads) (x : ℕ) → x < k → get_or (sweep f k m rs) x no_reads ≡ get_or rs x no_reads
unfolding sweep
sweep_before f zero k rs x l = refl
sweep_before f (suc m) k rs x l = sweep_before f m (suc k) (set rs k (f (get_or rs k no_reads))) x (omega arith) ∙ get_or-set_other rs k x (f (get_or rs k no_reads)) no_reads (λ q. omega arith)

sweep_inside : (f : Reads → Reads) (m k : ℕ) (rs : List Reads) (x : ℕ) → k ≤ x → x < k + m → x < length rs → get_or (sweep f k m rs) x no_reads ≡ f (get_or rs x no_reads)
unfolding sweep
sweep_inside f zero k rs x a l w = absurd (omega arith)
sweep_inside f (suc m) k rs x a l w = go (ℕ_discrete x k) (sweep_inside f m (suc k) (set rs k (f (get_or rs k no_reads))) x)
  where
    go : Dec (x ≡ k) → (suc k ≤ x → x < suc k + m → x < length (set rs k (f (get_or rs k no_reads))) → get_or (sweep f (suc k) m (set rs k (f (get_or rs k no_reads)))) x no_reads ≡ f (get_or (set rs k (f (get_or rs k no_reads))) x no_reads))
        → get_or (sweep f (suc k) m (set rs k (f (get_or rs k no_reads)))) x no_reads ≡ f (get_or rs x no_reads)
    go (yes e) ih = rw e (sweep_before f m (suc k) (set rs k (f (get_or rs k no_reads))) k (omega arith) ∙ get_or-set_same rs k (f (get_or rs k no_reads)) no_reads (omega arith))
    go (no n) ih = ih (omega arith) (omega arith) (rw length-set w) ∙ ap f (get_or-set_other rs k x (f (get_or rs k no_reads)) no_reads n)

-- the job at index k with other reads
abbrev with_reads : Block → ℕ → Reads → E.Job Running
with_reads b k rs =
    record { state = (job_of b k).state; journal = (job_of b k).journal; versions = (job_of b k).versions; reads = reads_of (code_at b k) rs b.checkpoints k; mark = mark_of rs.mark; status = (job_of b k).status }

-- a job's own change, and the sweep over the jobs above it
swept : (b r : Block) (i : ℕ) (j : E.Job Running) (old new : Shows) (lists : List Reads) → i < b.count → Sized b → length lists ≡ 16
    → ((c : ℕ) → shown_in old c ≡ E.shown (job_of b i) c) → ((c : ℕ) → shown_in new c ≡ E.shown j c)
    → ((k : ℕ) → (k ≡ i → ⊥) → get_or lists k no_reads ≡ get_or b.reads k no_reads)
    → r.reads ≡ sweep (mark_reads old new (suc i)) (suc i) (b.count - suc i) lists
    → r.start ≡ b.start → r.count ≡ b.count → (get_or r.reads i no_reads ≡ get_or lists i no_reads → job_of r i ≡ j)
    → ((k : ℕ) → (k ≡ i → ⊥) → job_of r k ≡ with_reads b k (get_or r.reads k no_reads)) → Becomes b r i j
unfolding job_of reads_of
swept b r i j old new lists inside z long eo en same er es ec own parts =
    record {
      table = es;
      count = ec;
      own = own (rw er (sweep_before f m (suc i) lists i (omega arith)));
      lower = λ k l. parts k (λ q. omega arith) ∙ rw (er, sweep_before f m (suc i) lists k (omega arith), same k (λ q. omega arith)) refl;
      higher = λ k l h. parts k (λ q. omega arith) ∙ rw (
        er,
        sweep_inside f m (suc i) lists k l (omega arith) (omega (arith, z.count)),
        same k (λ q. omega arith),
        ← fun_ext eo,
        ← fun_ext en,
        mark_is old new (suc i) (get_or b.reads k no_reads) (code_at b k) b.checkpoints k (z.lists.few k h),
      ) refl;
    }
  where
    f : Reads → Reads
    f = mark_reads old new (suc i)

    m : ℕ
    m = b.count - suc i

abbrev shows_at : Block → ℕ → Shows
shows_at b i = record { journal = get_or b.journals i no_journal; versions = get_or b.versions i no_versions }

pub end_is : (b : Block) (t : Ticket) (new : Versions) (ls : List Reads) → 0 < t.0 → t.0 ≤ b.count → Sized b → length b.status ≡ 16 → length b.versions ≡ 16 → length b.reads ≡ 16
    → ls ≡ sweep (mark_reads (shows_at b (t.0 - 1)) (record { journal = get_or b.journals (t.0 - 1) no_journal; versions = new }) t.0) t.0 (b.count - t.0) b.reads
    → Becomes b (record {
      start = b.start;
      count = b.count;
      jobs = b.jobs;
      states = b.states;
      status = set b.status (t.0 - 1) 1;
      journals = b.journals;
      versions = set b.versions (t.0 - 1) new;
      reads = ls;
      checkpoints = b.checkpoints;
    }) (t.0 - 1) (end_with (job_of b (t.0 - 1)) (versions_of new))
unfolding job_of E.shown
end_is b t new ls p l z ws wv wr e =
    let i = t.0 - 1 in
    let n : suc (t.0 - 1) ≡ t.0 = omega arith in
    let h : t.0 - 1 < b.count = omega arith in
    let m : t.0 - 1 < 16 = omega (arith, z.count) in
    swept b (record {
      start = b.start;
      count = b.count;
      jobs = b.jobs;
      states = b.states;
      status = set b.status (t.0 - 1) 1;
      journals = b.journals;
      versions = set b.versions (t.0 - 1) new;
      reads = ls;
      checkpoints = b.checkpoints;
    }) i
    (end_with (job_of b i) (versions_of new)) (shows_at b i) (record { journal = get_or b.journals i no_journal; versions = new }) b.reads h z wr (λ c. refl) (λ c. refl) (λ k q. refl)
    (rw n e) refl refl
    (λ q. rw (q, get_or-set_same b.versions (t.0 - 1) new no_versions (omega arith), get_or-set_same b.status (t.0 - 1) 1 0 (omega arith)) refl)
    (λ k q. rw (get_or-set_other b.versions (t.0 - 1) k new no_versions q, get_or-set_other b.status (t.0 - 1) k 1 0 q) refl)

withdrawn_length : (n : ℕ) (vs : List ℕ) → length (withdrawn n vs) ≤ length vs
withdrawn_length n [] = omega arith
withdrawn_length n (v ∷ vs) = go (ltb v n) (withdrawn_length n vs)
  where
    go : (t : Bool) → length (withdrawn n vs) ≤ length vs → length (cond t (v ∷ withdrawn n vs) (withdrawn n vs)) ≤ suc (length vs)
    go true h = omega arith
    go false h = omega arith

pub version_at_lem : (w : Versions) (k : ℕ) → w.size ≤ 8 → k < w.size → get_or w.numbers k 0 ≡ get_or (versions_of w) k 0
unfolding versions_of
version_at_lem w k few h = number_low w k (omega arith) ∙ sym (get_d_tab w.size (number_at w) k 0 h)

-- what is left of the versions after going back names entries that are left
back_showing : (j : Journal) (v w : Versions) (n : ℕ) → Showing j v → n ≤ j.size → versions_of w ≡ withdrawn n (versions_of v) → Showing (record { entries = j.entries; size = n }) w
back_showing j v w n s l e =
    let few : w.size ≤ 8 = omega (arith, ap length e, withdrawn_length n (versions_of v), length_versions v, length_versions w, s.numbers) in
    record {
      entries = omega (arith, s.entries);
      numbers = few;
      named = λ k h. rw (version_at_lem w k few h) (every_at (λ x. x < n) (versions_of w) k 0 (rw (length_versions w) h) (rw e (withdrawn_below n (versions_of v))));
    }

module _ (b : Block) (i : ℕ) (c : Checkpoint) (held : Held b i c) where
  abbrev cut_journal : Journal
  cut_journal = record { entries = (get_or b.journals i no_journal).entries; size = c.writes }

  abbrev cut_reads : Reads
  cut_reads = record { reads = (get_or b.reads i no_reads).reads; size = c.listed; mark = 255 }

  cut_journal_lem : journal_of cut_journal ≡ take c.writes (journal_of (get_or b.journals i no_journal))
  unfolding entries_of
  cut_journal_lem = sym (take_tab c.writes (get_or b.journals i no_journal).size _ held.writes)

  cut_reads_lem : (is : List Instruction) → reads_of is cut_reads b.checkpoints i ≡ take c.listed (reads_of is (get_or b.reads i no_reads) b.checkpoints i)
  unfolding reads_of
  cut_reads_lem is = sym (take_tab c.listed (get_or b.reads i no_reads).size _ held.listed)

  pub back_is : (t : Ticket) (w : Versions) (ls : List Reads) → i ≡ t.0 - 1 → 0 < t.0 → t.0 ≤ b.count → Sized b
      → length b.states ≡ 16 → length b.status ≡ 16 → length b.journals ≡ 16 → length b.versions ≡ 16 → length b.reads ≡ 16
      → versions_of w ≡ withdrawn c.writes (versions_of (get_or b.versions i no_versions))
      → ls ≡ sweep (mark_reads (shows_at b i) (record { journal = cut_journal; versions = w }) t.0) t.0 (b.count - t.0) (set b.reads i cut_reads)
      → Becomes b (record {
        start = b.start;
        count = b.count;
        jobs = b.jobs;
        states = set b.states i c.state;
        status = set b.status i 0;
        journals = set b.journals i cut_journal;
        versions = set b.versions i w;
        reads = ls;
        checkpoints = b.checkpoints;
      }) i (go_back (job_of b i) (checkpoint_of (code_at b i) c))
  unfolding job_of E.shown mark_of
  back_is t w ls ei p l z w1 w2 w3 w4 w5 ew e =
      let n : suc i ≡ t.0 = omega arith in
      let h : i < b.count = omega arith in
      let m : i < 16 = omega (arith, z.count) in
      swept b (record {
        start = b.start;
        count = b.count;
        jobs = b.jobs;
        states = set b.states i c.state;
        status = set b.status i 0;
        journals = set b.journals i cut_journal;
        versions = set b.versions i w;
        reads = ls;
        checkpoints = b.checkpoints;
      }) i
      (go_back (job_of b i) (checkpoint_of (code_at b i) c)) (shows_at b i) (record { journal = cut_journal; versions = w }) (set b.reads i cut_reads) h z (length-set b.reads i cut_reads ∙ w5)
      (λ q. refl) (λ q. rw (cut_journal_lem, ew) refl) (λ k q. get_or-set_other b.reads i k cut_reads no_reads q)
      (rw n e) refl refl
      (λ q. rw (
        q,
        get_or-set_same b.reads i cut_reads no_reads (omega arith),
        get_or-set_same b.states i c.state no_state (omega arith),
        get_or-set_same b.status i 0 0 (omega arith),
        get_or-set_same b.journals i cut_journal no_journal (omega arith),
        get_or-set_same b.versions i w no_versions (omega arith),
        cut_journal_lem,
        ew,
        cut_reads_lem (code_at b i),
      ) refl)
      (λ k q. rw (get_or-set_other b.states i k c.state no_state q, get_or-set_other b.status i k 0 0 q, get_or-set_other b.journals i k cut_journal no_journal q, get_or-set_other b.versions i k w no_versions q) refl)

pub back_shown : (b : Block) (t : ℕ) (kept : Journal) (w : Versions) (c : Checkpoint) → Sized b → Held b (t - 1) c → 0 < t → t ≤ b.count
    → kept ≡ record { entries = (get_or b.journals (t - 1) no_journal).entries; size = c.writes } → versions_of w ≡ withdrawn c.writes (versions_of (get_or b.versions (t - 1) no_versions)) → Showing kept w
back_shown b t kept w c z h p l e q = rw e (back_showing (get_or b.journals (t - 1) no_journal) (get_or b.versions (t - 1) no_versions) w c.writes (z.showing.showing (t - 1) (omega arith)) h.writes q)
