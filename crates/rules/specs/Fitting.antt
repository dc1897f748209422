-- What a block in work that fits its sizes offers: each count within its array, and each name within what it names.
use Rattle.std.specs.Prelude.{◌≡◌, refl, ◌⊎◌, Bool, true, false, cond, ◌&&◌, eqb, leb, ltb, get_or, None, Some}
use Rattle.std.proofs.Common.{sym, ◌∙◌, inl, inr, arith}
use Prim.Native.Nat.{ℕ, zero, suc, ◌+◌, ◌*◌, ◌≤◌, ◌<◌}
use Rattle.std.proofs.Math.Decide.{ℕ_discrete, dec_lt}
use borrow.Author.Tests.{leb-true, ltb-true, eqb-true}
use Rattle.theory.specs.Engine as E
use Rattle.theory.specs.Engine.{block_fits}
use Rattle.theory.proofs.ReadSizes.{both}
use Rattle.machine.specs.Limits.{LONGEST, ROOM, FEW, JOBS, CELLS}
use Rattle.rules.specs.Box.{limits, box}
use Rattle.rules.specs.Program.{no_program}
use Rattle.rules.specs.Block.{no_state, no_checkpoint, block_of}
use Rattle.rules.specs.View.{no_entry, Showing, number_at, number_low, number_past, mark_of, no_journal, no_versions, no_read, no_reads}
use Rattle.rules.specs.Sizes.{passes, code_within, stands_in, journal_within, version_within_at, versions_within, read_within, rises_from, reads_within, mark_within, job_within, job_within_at, block_is, entry_within, entry_within_at}
use Rattle.rules.specs.declared.block.Journal.{Journal}
use Rattle.rules.specs.declared.block.Versions.{Versions}
use Rattle.rules.specs.declared.block.Read.{Read}
use Rattle.rules.specs.declared.block.Reads.{Reads}
use Rattle.rules.specs.declared.block.Checkpoint.{Checkpoint}
use Rattle.rules.specs.declared.block.Program.{Program}
use Rattle.rules.specs.declared.block.Block.{Block}

-- the job at index k: its state, its journal and versions, its reads, and for each listed read the checkpoint to go back to
pub record Fit (b : Block) (k : ℕ) : Type 0 where
  pub code : (get_or b.jobs k no_program).size ≤ 64
  pub place : (get_or b.states k no_state).place.0 < (get_or b.jobs k no_program).size
  pub journal : (get_or b.journals k no_journal).size ≤ 8
  pub cells : (i : ℕ) → i < (get_or b.journals k no_journal).size → (get_or (get_or b.journals k no_journal).entries i no_entry).cell.0 < 256
  pub showing : Showing (get_or b.journals k no_journal) (get_or b.versions k no_versions)
  pub reads : (get_or b.reads k no_reads).size ≤ 8
  pub mark : ((get_or b.reads k no_reads).mark ≡ 255) ⊎ ((get_or b.reads k no_reads).mark < (get_or b.reads k no_reads).size)
  pub back_listed : (i : ℕ) → i < (get_or b.reads k no_reads).size → (get_or b.checkpoints (8 * k + i) no_checkpoint).listed ≤ i
  pub back_writes : (i : ℕ) → i < (get_or b.reads k no_reads).size → (get_or b.checkpoints (8 * k + i) no_checkpoint).writes ≤ (get_or b.journals k no_journal).size

-- ---- what each test tells
passes_at : (f : ℕ → Bool) (k m : ℕ) → passes f k m ≡ true → (i : ℕ) → k ≤ i → i < k + m → f i ≡ true
unfolding passes
passes_at f k zero e i l u = absurd (omega arith)
passes_at f k (suc m) e i l u =
    let w = both (f k) (passes f (suc k) m) e in
    go (ℕ_discrete i k) w.0 (λ n. passes_at f (suc k) m w.1 i (omega arith) (omega arith))
  where
    go : Dec (i ≡ k) → f k ≡ true → ((i ≡ k → ⊥) → f i ≡ true) → f i ≡ true
    go (yes q) h r = rw q h
    go (no q) h r = r q

stands : (n p h : ℕ) → stands_in n p h ≡ true → p < n
unfolding stands_in
stands n p h e = ltb-true _ _ (both (ltb p n) (leb h ROOM) e).0

mark_within_lem : (m n : ℕ) → mark_within m n ≡ true → (m ≡ 255) ⊎ (m < n)
unfolding mark_within mark_of
mark_within_lem m n = go (eqb m 255) refl
  where
    go : (t : Bool) → eqb m 255 ≡ t → E.mark_fits (cond t None (Some m)) n ≡ true → (m ≡ 255) ⊎ (m < n)
    go true q e = inl (eqb-true _ _ q)
    go false q e = inr (ltb-true _ _ e)

-- a listed read and its checkpoint, of a job of n instructions, with entries from `least` to `most`
record ReadFit (n i least most : ℕ) (r : Read) (c : Checkpoint) : Type 0 where
  listed : c.listed ≤ i
  above : least ≤ c.writes
  writes : c.writes ≤ most

read_within_lem : (n before i most : ℕ) (r : Read) (c : Checkpoint) → read_within n before i r c ≡ true → c.writes ≤ most → ReadFit n i before most r c
unfolding read_within
read_within_lem n before i most r c e l =
    let a = both (ltb r.cell.0 CELLS && stands_in n c.state.place.0 c.state.stack.height && leb c.listed i) (leb before c.writes) e in
    let d = both (ltb r.cell.0 CELLS && stands_in n c.state.place.0 c.state.stack.height) (leb c.listed i) a.0 in
    record { listed = leb-true _ _ d.1; above = leb-true _ _ a.1; writes = l }

module _ (n entries : ℕ) (rs : Reads) (cs : ℕ → Checkpoint) where
  rises_within : (before i m : ℕ) → rises_from n entries rs cs before i m ≡ true → before ≤ entries
  unfolding rises_from
  rises_within before i zero e = leb-true _ _ e
  rises_within before i (suc m) e =
      let w = both (read_within n before i (get_or rs.reads i no_read) (cs i)) _ e in
      let r = read_within_lem n before i _ (get_or rs.reads i no_read) (cs i) w.0 (rises_within (cs i).writes (suc i) m w.1) in
      omega (arith, r.above, r.writes)

  rises_at : (before i m : ℕ) → rises_from n entries rs cs before i m ≡ true → (x : ℕ) → i ≤ x → x < i + m → ReadFit n x 0 entries (get_or rs.reads x no_read) (cs x)
  unfolding rises_from
  rises_at before i zero e x l u = absurd (omega arith)
  rises_at before i (suc m) e x l u =
      let w = both (read_within n before i (get_or rs.reads i no_read) (cs i)) _ e in
      let r = read_within_lem n before i _ (get_or rs.reads i no_read) (cs i) w.0 (rises_within (cs i).writes (suc i) m w.1) in
      go (ℕ_discrete x i)
      (record { listed = r.listed; above = omega arith; writes = r.writes })
      (λ o. rises_at (cs i).writes (suc i) m w.1 x (omega arith) (omega arith))
    where
      go : Dec (x ≡ i) → ReadFit n i 0 entries (get_or rs.reads i no_read) (cs i) → ((x ≡ i → ⊥) → ReadFit n x 0 entries (get_or rs.reads x no_read) (cs x))
          → ReadFit n x 0 entries (get_or rs.reads x no_read) (cs x)
      go (yes q) h r = rw q h
      go (no q) h r = r q

code_few : (j : Program) → code_within j ≡ true → j.size ≤ 64
unfolding code_within
code_few j e = leb-true _ _ (both (leb j.size LONGEST) _ e).0

journal_few : (jo : Journal) → journal_within jo ≡ true → jo.size ≤ 8
unfolding journal_within
journal_few jo e = leb-true _ _ (both (leb jo.size FEW) _ e).0

journal_cells : (jo : Journal) → journal_within jo ≡ true → (i : ℕ) → i < jo.size → (get_or jo.entries i no_entry).cell.0 < 256
unfolding journal_within entry_within
journal_cells jo e i l = ltb-true _ _ (passes_at (entry_within_at jo) 0 jo.size (both (leb jo.size FEW) _ e).1 i (omega arith) (omega arith))

versions_within_lem : (n : ℕ) (v : Versions) → versions_within n v ≡ true → (i : ℕ) → i < v.size → number_at v i < n
unfolding versions_within
versions_within_lem n v e i l = ltb-true _ _ (passes_at (version_within_at n v) 0 v.size e i (omega arith) (omega arith))

-- a version past the array's end would name an entry past the journal's
versions_few : (n : ℕ) (v : Versions) → n ≤ 8 → versions_within n v ≡ true → v.size ≤ 8
versions_few n v m e = go (dec_lt 8 v.size)
  where
    go : Dec (8 < v.size) → v.size ≤ 8
    go (yes l) = absurd (omega (arith, versions_within_lem n v e 8 l, number_past v 8 (omega arith)))
    go (no l) = omega arith

showing : (j : Journal) (v : Versions) → journal_within j ≡ true → versions_within j.size v ≡ true → Showing j v
showing j v a e =
    let few = versions_few j.size v (journal_few j a) e in
    record { entries = journal_few j a; numbers = few; named = λ i l. rw (number_low v i (omega arith)) (versions_within_lem j.size v e i l) }

reads_few : (n entries : ℕ) (rs : Reads) (cs : ℕ → Checkpoint) → reads_within n entries rs cs ≡ true → rs.size ≤ 8
unfolding reads_within
reads_few n entries rs cs e = leb-true _ _ (both (leb rs.size FEW) _ e).0

reads_within_lem : (n entries : ℕ) (rs : Reads) (cs : ℕ → Checkpoint) → reads_within n entries rs cs ≡ true → (i : ℕ) → i < rs.size
    → ReadFit n i 0 entries (get_or rs.reads i no_read) (cs i)
unfolding reads_within
reads_within_lem n entries rs cs e i l = rises_at n entries rs cs 0 0 rs.size (both (leb rs.size FEW) _ e).1 i (omega arith) (omega arith)

-- ---- the block
pub count_fit : (b : Block) → block_fits limits box (block_of b) ≡ true → b.count ≤ 16
count_fit b e = leb-true _ _ (both (leb b.count JOBS) _ (sym (block_is b) ∙ e)).0

-- the tests of one job, one by one
record Tested (b : Block) (k : ℕ) : Type 0 where
  code : code_within (get_or b.jobs k no_program) ≡ true
  state : stands_in (get_or b.jobs k no_program).size (get_or b.states k no_state).place.0 (get_or b.states k no_state).stack.height ≡ true
  journal : journal_within (get_or b.journals k no_journal) ≡ true
  versions : versions_within (get_or b.journals k no_journal).size (get_or b.versions k no_versions) ≡ true
  reads : reads_within (get_or b.jobs k no_program).size (get_or b.journals k no_journal).size (get_or b.reads k no_reads) (λ i. get_or b.checkpoints (8 * k + i) no_checkpoint) ≡ true
  mark : mark_within (get_or b.reads k no_reads).mark (get_or b.reads k no_reads).size ≡ true

tested : (b : Block) (k : ℕ) → job_within_at b k ≡ true → Tested b k
unfolding job_within
tested b k e =
    let a = both _ (mark_within (get_or b.reads k no_reads).mark (get_or b.reads k no_reads).size) e in
    let c = both _ (reads_within (get_or b.jobs k no_program).size (get_or b.journals k no_journal).size (get_or b.reads k no_reads) (λ i. get_or b.checkpoints (8 * k + i) no_checkpoint)) a.0 in
    let d = both _ (versions_within (get_or b.journals k no_journal).size (get_or b.versions k no_versions)) c.0 in
    let f = both _ (journal_within (get_or b.journals k no_journal)) d.0 in
    let g = both (code_within (get_or b.jobs k no_program)) (stands_in (get_or b.jobs k no_program).size (get_or b.states k no_state).place.0 (get_or b.states k no_state).stack.height) f.0 in
    record { code = g.0; state = g.1; journal = f.1; versions = d.1; reads = c.1; mark = a.1 }

fit : (b : Block) (k : ℕ) → Tested b k → Fit b k
fit b k t =
    let r = reads_within_lem _ _ (get_or b.reads k no_reads) (λ i. get_or b.checkpoints (8 * k + i) no_checkpoint) t.reads in
    record {
      code = code_few _ t.code;
      place = stands _ _ _ t.state;
      journal = journal_few _ t.journal;
      cells = journal_cells _ t.journal;
      showing = showing _ _ t.journal t.versions;
      reads = reads_few _ _ _ _ t.reads;
      mark = mark_within_lem _ _ t.mark;
      back_listed = λ i l. (r i l).listed;
      back_writes = λ i l. (r i l).writes;
    }

pub block_fit : (b : Block) → block_fits limits box (block_of b) ≡ true → (k : ℕ) → k < b.count → Fit b k
block_fit b e k l =
    fit b k (tested b k (passes_at (job_within_at b) 0 b.count (both (leb b.count JOBS) _ (sym (block_is b) ∙ e)).1 k (omega arith) (omega arith)))
