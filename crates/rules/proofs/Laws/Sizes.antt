-- The sizes: the tests stand in the definition's order, and in a loop what is left from here decides.
use mathlib.Core.Path.{◌≡◌, refl, ap, sym, ◌∙◌}
use mathlib.Core.Bool.{Bool, true, false, ◌&&◌}
use mathlib.Core.List.{List}
use Prim.Native.Nat.{ℕ, zero, suc, ◌+◌, ◌*◌, ◌-◌, ◌/◌, ◌≤◌, ◌<◌}
use native.Mathlib.Omega.{arith}
use native.Mathlib.Numerals.{add-one}
use native.Mathlib.Nat.{sub-zero}
use lib.Dec.{leb, ltb}
use lib.ListN.{length, get_or, take, drop}
use Rattle.std.specs.List.{list_all, slice_range}
use Rattle.std.specs.Simd.{first_chunks}
use Rattle.std.proofs.lemmas.List.{get_or-take, get_or-drop, drop-drop}
use borrow.Author.Tests.{tests, le-ltb, le-leb, lt-leb, leb-true}
use Rattle.theory.specs.Engine.{block_fits}
use Rattle.machine.specs.Limits.{JOBS}
use Rattle.rules.specs.Program.{no_program}
use Rattle.rules.specs.View.{number_low, number_past, no_entry, no_journal, no_versions, no_read, no_reads}
use Rattle.rules.specs.Block.{no_state, no_checkpoint, block_of}
use Rattle.rules.specs.Box.{limits, box}
use Rattle.rules.specs.Sizes.{passes, passes_same, entry_within, journal_within, version_within_at, versions_within, read_within, rises_from, reads_within, job_within, job_within_at, listed, block_is}
use Rattle.rules.specs.declared.block.Entry.{Entry}
use Rattle.rules.specs.declared.block.Journal.{Journal}
use Rattle.rules.specs.declared.block.Versions.{Versions}
use Rattle.rules.specs.declared.block.Reads.{Reads}
use Rattle.rules.specs.declared.block.Checkpoint.{Checkpoint}
use Rattle.rules.specs.declared.block.Block.{Block}
use Rattle.rules.proofs.Laws.Tests.{passes_more, passes_past, passes_all}

-- ---- the journal and the versions
module _ (j : Journal) where
  pub journal_long : 8 < j.size → false ≡ journal_within j
  unfolding journal_within
  journal_long l = rw (lt-leb _ _ l) refl

  pub journal_all : (es : List Entry) (n : ℕ) → es ≡ slice_range j.entries 0 n → n ≡ j.size → n ≤ length j.entries → length j.entries ≡ 8 → list_all entry_within es ≡ journal_within j
  unfolding journal_within
  journal_all es n e q l m = rw (e, q, sub-zero, le-leb j.size 8 (omega arith), passes_all entry_within no_entry j.size j.entries (omega arith)) refl

module _ (n : ℕ) (v : Versions) where
  -- the ninth version would name nothing
  pub versions_long : 8 < v.size → n < 256 → false ≡ versions_within n v
  unfolding versions_within
  versions_long l m = sym (passes_past (version_within_at n v) 0 v.size 8 (omega arith) (le-ltb _ _ (omega (arith, number_past v 8 (omega arith)))))

  pub versions_all : (ps : List ℕ) (m : ℕ) → ps ≡ slice_range v.numbers 0 m → m ≡ v.size → m ≤ length v.numbers → length v.numbers ≡ 8 → list_all (λ x. ltb x n) ps ≡ versions_within n v
  unfolding versions_within
  versions_all ps m e q l k =
      rw (e, q, sub-zero, ← passes_all (λ x. ltb x n) 0 v.size v.numbers (omega arith))
      (passes_same _ _ 0 v.size (λ i o. ap (λ (x : ℕ). ltb x n) (number_low v i (omega arith))))

-- ---- the reads
module _ (n entries : ℕ) (rs : Reads) (cs : List Checkpoint) where
  pub reads_long : 8 < rs.size → false ≡ reads_within n entries rs (listed cs)
  unfolding reads_within
  reads_long l = rw (lt-leb _ _ l) refl

  pub reads_start : rs.size ≤ 8 → rises_from n entries rs (listed cs) 0 0 (rs.size - 0) ≡ reads_within n entries rs (listed cs)
  unfolding reads_within
  reads_start l = rw (le-leb _ _ l, sub-zero) refl

  module _ (before i : ℕ) (q : rises_from n entries rs (listed cs) before i (rs.size - i) ≡ reads_within n entries rs (listed cs)) where
    rises_one : i < rs.size → read_within n before i (get_or rs.reads i no_read) (get_or cs i no_checkpoint) && rises_from n entries rs (listed cs) (get_or cs i no_checkpoint).writes (suc i) (rs.size - suc i)
        ≡ reads_within n entries rs (listed cs)
    unfolding rises_from
    rises_one l = one (rs.size - suc i) ∙ ap (rises_from n entries rs (listed cs) before i) (let w : suc (rs.size - suc i) ≡ rs.size - i = omega arith in w) ∙ q
      where
        one : (m : ℕ) → read_within n before i (get_or rs.reads i no_read) (get_or cs i no_checkpoint) && rises_from n entries rs (listed cs) (get_or cs i no_checkpoint).writes (suc i) m
            ≡ rises_from n entries rs (listed cs) before i (suc m)
        one m = refl

    pub reads_stop : i < rs.size → read_within n before i (get_or rs.reads i no_read) (get_or cs i no_checkpoint) ≡ false → false ≡ reads_within n entries rs (listed cs)
    reads_stop l e = rw e at (rises_one l)

    pub reads_on : i < rs.size → read_within n before i (get_or rs.reads i no_read) (get_or cs i no_checkpoint) ≡ true
        → rises_from n entries rs (listed cs) (get_or cs i no_checkpoint).writes (i + 1) (rs.size - (i + 1)) ≡ reads_within n entries rs (listed cs)
    reads_on l e = rw (add-one i) (rw e at (rises_one l))

    pub reads_end : rs.size ≤ i → leb before entries ≡ reads_within n entries rs (listed cs)
    unfolding rises_from
    reads_end l = none (rs.size - i) (omega arith) ∙ q
      where
        none : (m : ℕ) → m ≤ 0 → leb before entries ≡ rises_from n entries rs (listed cs) before i m
        none zero w = refl
        none (suc m) w = absurd (omega arith)

pub ruleset reads_laws = (tests, reads_long, reads_start, reads_stop, reads_on, reads_end)

-- ---- the block
-- only the checkpoints of listed reads count
module _ (n entries : ℕ) (rs : Reads) (cs ds : ℕ → Checkpoint) (same : (i : ℕ) → i < 8 → cs i ≡ ds i) where
  rises_same : (before i m : ℕ) → i + m ≤ 8 → rises_from n entries rs cs before i m ≡ rises_from n entries rs ds before i m
  unfolding rises_from
  rises_same before i zero l = refl
  rises_same before i (suc m) l = rw (same i (omega arith), rises_same (ds i).writes (suc i) m (omega arith)) refl

  reads_same : reads_within n entries rs cs ≡ reads_within n entries rs ds
  unfolding reads_within
  reads_same = go (leb rs.size 8) refl
    where
      go : (t : Bool) → leb rs.size 8 ≡ t → t && rises_from n entries rs cs 0 0 rs.size ≡ t && rises_from n entries rs ds 0 0 rs.size
      go true e = rises_same 0 0 rs.size (let w : rs.size ≤ 8 = leb-true rs.size 8 e in omega arith)
      go false e = refl

-- the eight checkpoints of the k-th job
chunk_at : (m k : ℕ) (cs : List Checkpoint) (d : List Checkpoint) → k < m → get_or (first_chunks 8 m cs) k d ≡ take 8 (drop (8 * k) cs)
chunk_at zero k cs d l = absurd (omega arith)
chunk_at (suc m) zero cs d l = refl
chunk_at (suc m) (suc k) cs d l = chunk_at m k (drop 8 cs) d (omega arith) ∙ ap (take 8) (drop-drop (8 * k) 8 cs ∙ ap (λ (i : ℕ). drop i cs) (let w : 8 + 8 * k ≡ 8 * suc k = omega arith in w))

pub chunk_is : (cs : List Checkpoint) (parts : List (List Checkpoint)) → parts ≡ first_chunks 8 (length cs / 8) cs → length cs ≡ 128 → (k : ℕ) (d : List Checkpoint) → k < 16
    → get_or parts k d ≡ take 8 (drop (8 * k) cs)
chunk_is cs parts e l k d m = rw (e, l) (chunk_at 16 k cs d m)

-- the first k jobs fit, unless there are too many
pub record Testing (b : Block) (n k : ℕ) (x : Bool) : Type 0 where
  pub few : n ≤ 16
  pub count : n ≡ b.count
  pub low : k ≤ n
  pub so_far : x ≡ passes (job_within_at b) 0 k

module _ (b : Block) where
  pub test_start : (n : ℕ) → n ≡ b.count → b.count ≤ 16 → Testing b n 0 true
  unfolding passes
  test_start n e l = record { few = omega arith; count = e; low = omega arith; so_far = refl }

  -- too many jobs fit nowhere
  pub test_many : 16 < b.count → false ≡ block_fits limits box (block_of b)
  test_many l = sym (block_is b ∙ rw (lt-leb _ _ l) refl)

  -- a job with the eight checkpoints at its place
  abbrev here_with : ℕ → List Checkpoint → Bool
  here_with k cs = job_within (get_or b.jobs k no_program) (get_or b.states k no_state) (get_or b.journals k no_journal) (get_or b.versions k no_versions) (get_or b.reads k no_reads) (listed cs)

  here_is : (k : ℕ) → here_with k (take 8 (drop (8 * k) b.checkpoints)) ≡ job_within_at b k
  unfolding job_within
  here_is k =
      rw (reads_same (get_or b.jobs k no_program).size (get_or b.journals k no_journal).size (get_or b.reads k no_reads) (listed (take 8 (drop (8 * k) b.checkpoints))) _
      (λ i l. get_or-take 8 (drop (8 * k) b.checkpoints) i no_checkpoint l ∙ get_or-drop (8 * k) b.checkpoints i no_checkpoint)) refl

  module _ (n k : ℕ) (x : Bool) (g : Testing b n k x) where
    pub test_on : (l : k < n) (cs : List Checkpoint) (here : Bool) → cs ≡ take 8 (drop (8 * k) b.checkpoints) → here ≡ here_with k cs → Testing b n (k + 1) (x && here)
    test_on l cs here e h = record {
      few = g.few;
      count = g.count;
      low = omega arith;
      so_far = rw (g.so_far, h, e, here_is k) (passes_more (job_within_at b) k);
    }

    pub test_end : n ≤ k → x ≡ block_fits limits box (block_of b)
    test_end l =
        let w : k ≡ b.count = omega (arith, g.low, g.count) in
        g.so_far ∙ ap (passes (job_within_at b) 0) w ∙ sym (block_is b ∙ rw (le-leb b.count JOBS (omega (arith, g.few, g.count))) refl)
