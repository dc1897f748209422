-- Refusal 20's sizes on the code's own structs, part by part, and that they are those of the block that the structs stand for.
use Rattle.std.specs.Prelude.{◌≡◌, Bool, ◌&&◌, List, [], ◌∷◌, ◌++◌, ltb, length}
use Rattle.std.proofs.Math.Path.{refl, ap, sym}
use Rattle.std.proofs.Common.{◌∙◌, eqb-true}
use Rattle.std.proofs.Math.Bool.{true, false, cond, and_assoc, and-true}
use Prim.Native.Nat.{ℕ, zero, suc, ◌+◌, ◌*◌, ◌≤◌, ◌<◌}
use native.Mathlib.Omega.{arith}
use Rattle.std.proofs.Math.Dec.{eqb, leb, leb-zero}
use Rattle.std.proofs.Math.ListN.{get_or}
use Rattle.theory.specs.Lists.{tab, length_tab}
use Rattle.theory.specs.Engine as E
use Rattle.machine.specs.Limits.{LONGEST, ROOM, FEW, JOBS, CELLS}
use Rattle.machine.specs.Instruction.{PUSH, DUP, SWAP, JUMP, known, fits}
use Rattle.machine.specs.Machine.{Running, formed, sizes}
use Rattle.machine.specs.View.{length_tops}
use Rattle.machine.specs.declared.instruction.Instruction.{Instruction}
use Rattle.machine.specs.declared.job.State.{State}
use Rattle.rules.specs.Program.{no_program, instruction_in, program_of, length_program, program_at}
use Rattle.rules.specs.View.{entry_of, entries_of, journal_of, length_journal, number_at, versions_of, mark_of, no_entry, no_journal, no_versions, no_read, no_reads}
use Rattle.rules.specs.Block.{no_state, no_checkpoint, running_of, read_of, reads_of, job_of, block_of}
use Rattle.rules.specs.Box.{limits, box}
use Rattle.rules.specs.declared.block.Entry.{Entry}
use Rattle.rules.specs.declared.block.Journal.{Journal}
use Rattle.rules.specs.declared.block.Versions.{Versions}
use Rattle.rules.specs.declared.block.Read.{Read}
use Rattle.rules.specs.declared.block.Reads.{Reads}
use Rattle.rules.specs.declared.block.Checkpoint.{Checkpoint}
use Rattle.rules.specs.declared.block.Program.{Program}
use Rattle.rules.specs.declared.block.Block.{Block}

-- ---- the tests
-- m places from k on all pass a test
unfoldable pub passes : (ℕ → Bool) → ℕ → ℕ → Bool
passes f k zero = true
passes f k (suc m) = f k && passes f (suc k) m

unfoldable pub instruction_within : ℕ → ℕ → Instruction → Bool
instruction_within n p i = known i && fits n p i

unfoldable pub code_within : Program → Bool
code_within j = leb j.size LONGEST && formed (program_of j) j.size j.size

-- by code: what the jumps have, which come last; what DUP and SWAP have; and what all others have
unfoldable pub by_code : ℕ → ℕ → ℕ → ℕ → ℕ
by_code c jump count other = cond (leb JUMP c) jump (cond (ltb SWAP c) other (cond (leb DUP c) count other))

-- an instruction by its code and its argument, of which PUSH has none
unfoldable pub keeps_at : ℕ → ℕ → ℕ → ℕ → Bool
keeps_at n p c a = cond (eqb c PUSH) true (instruction_within n p (record { code = c; operand = a }))

-- n instructions by their bytes
unfoldable pub bytes_within : List ℕ → List ℕ → ℕ → Bool
bytes_within cs xs n = leb n LONGEST && passes (λ k. keeps_at n k (get_or cs k 0) (get_or xs k 0)) 0 n

-- a place in a job of n instructions, and the height of a stack
unfoldable pub stands_in : ℕ → ℕ → ℕ → Bool
stands_in n p h = ltb p n && leb h ROOM

unfoldable pub entry_within : Entry → Bool
entry_within e = ltb e.cell.0 CELLS

abbrev pub entry_within_at : Journal → ℕ → Bool
entry_within_at j k = entry_within (get_or j.entries k no_entry)

unfoldable pub journal_within : Journal → Bool
journal_within j = leb j.size FEW && passes (entry_within_at j) 0 j.size

-- the k-th version names one of n entries
abbrev pub version_within_at : ℕ → Versions → ℕ → Bool
version_within_at n v k = ltb (number_at v k) n

unfoldable pub versions_within : ℕ → Versions → Bool
versions_within n v = passes (version_within_at n v) 0 v.size

-- the i-th read of a job of n instructions, where the checkpoint before its own has so many entries
unfoldable pub read_within : ℕ → ℕ → ℕ → Read → Checkpoint → Bool
read_within n before i r c = ltb r.cell.0 CELLS && stands_in n c.state.place.0 c.state.stack.height && leb c.listed i && leb before c.writes

-- m reads from the i-th on, of a job of n instructions and so many entries
unfoldable pub rises_from : ℕ → ℕ → Reads → (ℕ → Checkpoint) → ℕ → ℕ → ℕ → Bool
rises_from n entries rs cs before i zero = leb before entries
rises_from n entries rs cs before i (suc m) =
    read_within n before i (get_or rs.reads i no_read) (cs i) && rises_from n entries rs cs (cs i).writes (suc i) m

unfoldable pub reads_within : ℕ → ℕ → Reads → (ℕ → Checkpoint) → Bool
reads_within n entries rs cs = leb rs.size FEW && rises_from n entries rs cs 0 0 rs.size

unfoldable pub mark_within : ℕ → ℕ → Bool
mark_within m n = E.mark_fits (mark_of m) n

unfoldable pub job_within : Program → State → Journal → Versions → Reads → (ℕ → Checkpoint) → Bool
job_within j s jo v rs cs =
    code_within j && stands_in j.size s.place.0 s.stack.height && journal_within jo && versions_within jo.size v && reads_within j.size jo.size rs cs && mark_within rs.mark rs.size

-- the job at index k
abbrev pub job_within_at : Block → ℕ → Bool
job_within_at b k =
    job_within (get_or b.jobs k no_program) (get_or b.states k no_state) (get_or b.journals k no_journal) (get_or b.versions k no_versions) (get_or b.reads k no_reads)
    (λ i. get_or b.checkpoints (8 * k + i) no_checkpoint)

abbrev pub listed : List Checkpoint → ℕ → Checkpoint
listed cs i = get_or cs i no_checkpoint

-- ---- they are those of the block
pub passes_same : (f g : ℕ → Bool) (k m : ℕ) → ((i : ℕ) → i < k + m → f i ≡ g i) → passes f k m ≡ passes g k m
unfolding passes
passes_same f g k zero h = refl
passes_same f g k (suc m) h = rw (h k (omega arith), passes_same f g (suc k) m (λ i l. h i (omega arith))) refl

-- a list by its entries, from the front
module _ {A : Type 0} where
  abbrev span : (ℕ → A) → ℕ → ℕ → List A
  span f k zero = []
  span f k (suc m) = f k ∷ span f (suc k) m

  span_snoc : (f : ℕ → A) (k m : ℕ) → span f k m ++ (f (k + m) ∷ []) ≡ span f k (suc m)
  span_snoc f k zero = ap (λ (i : ℕ). f i ∷ []) (let w : k + 0 ≡ k = omega arith in w)
  span_snoc f k (suc m) =
      ap (λ (l : List A). f k ∷ l) (ap (λ (i : ℕ). span f (suc k) m ++ (f i ∷ [])) (let w : k + suc m ≡ suc k + m = omega arith in w) ∙ span_snoc f (suc k) m)

  tab_span : (n : ℕ) (f : ℕ → A) → tab n f ≡ span f 0 n
  tab_span zero f = refl
  tab_span (suc n) f = ap (λ (l : List A). l ++ (f n ∷ [])) (tab_span n f) ∙ ap (λ (i : ℕ). span f 0 n ++ (f i ∷ [])) (let w : n ≡ 0 + n = omega arith in w) ∙ span_snoc f 0 n

  all_span : (g : A → Bool) (f : ℕ → A) (k m : ℕ) → E.all g (span f k m) ≡ passes (λ i. g (f i)) k m
  unfolding passes
  all_span g f k zero = refl
  all_span g f k (suc m) = ap (λ (b : Bool). g (f k) && b) (all_span g f (suc k) m)

  all_tab : (g : A → Bool) (n : ℕ) (f : ℕ → A) → E.all g (tab n f) ≡ passes (λ i. g (f i)) 0 n
  all_tab g n f = ap (E.all g) (tab_span n f) ∙ all_span g f 0 n

-- the machine's own test of a state, whose job's instructions are tested once
state_fits : (j : Program) (s : State) → sizes LONGEST ROOM (running_of (program_of j) s) ≡ code_within j && stands_in j.size s.place.0 s.stack.height
unfolding sizes code_within stands_in
state_fits j s =
    rw (length_program j, length_tops s.stack.height s.stack.entries)
    (and_assoc (leb j.size LONGEST && formed (program_of j) j.size j.size) (ltb s.place.0 j.size) (leb s.stack.height ROOM))

-- the test of the entries before a read comes after those of the read itself
later : (x b w r : Bool) → b && (x && w && r) ≡ x && b && (w && r)
later true true w r = refl
later true false w r = refl
later false true w r = refl
later false false w r = refl

module _ (j : Program) (code : code_within j ≡ true) (N : ℕ) (rs : Reads) (cs : ℕ → Checkpoint) where
  abbrev read_at : ℕ → E.Read Running
  read_at i = read_of (program_of j) (get_or rs.reads i no_read) (cs i)

  rises_is : (before i m : ℕ) → leb before (E.writes_after limits box (span read_at i m) N) && E.reads_fit limits box N i (span read_at i m)
      ≡ rises_from j.size N rs cs before i m
  unfolding rises_from read_within
  rises_is before i zero = and-true (leb before N)
  rises_is before i (suc m) =
      rw (state_fits j (cs i).state, code)
      (later (ltb (get_or rs.reads i no_read).cell.0 CELLS && stands_in j.size (cs i).state.place.0 (cs i).state.stack.height && leb (cs i).listed i) (leb before (cs i).writes) _ _
      ∙ ap (λ (b : Bool). read_within j.size before i (get_or rs.reads i no_read) (cs i) && b) (rises_is (cs i).writes (suc i) m))

  reads_are : E.reads_fit limits box N 0 (tab rs.size read_at) ≡ rises_from j.size N rs cs 0 0 rs.size
  reads_are =
      ap (E.reads_fit limits box N 0) (tab_span rs.size read_at)
      ∙ ap (λ (b : Bool). b && E.reads_fit limits box N 0 (span read_at 0 rs.size)) (sym (leb-zero (E.writes_after limits box (span read_at 0 rs.size) N)))
      ∙ rises_is 0 0 rs.size

journal_is : (jo : Journal) → leb (length (journal_of jo)) FEW && E.all (E.entry_fits limits box) (journal_of jo) ≡ journal_within jo
unfolding journal_within entries_of entry_within
journal_is jo =
    rw (length_tab jo.size (λ k. entry_of (get_or jo.entries k no_entry)))
    (ap (λ (b : Bool). leb jo.size FEW && b) (all_tab (E.entry_fits limits box) jo.size (λ k. entry_of (get_or jo.entries k no_entry))))

versions_are : (n : ℕ) (v : Versions) → E.all (λ i. ltb i n) (versions_of v) ≡ versions_within n v
unfolding versions_within versions_of
versions_are n v = all_tab (λ i. ltb i n) v.size (number_at v)

-- the tests of the journal stand together, and those of the reads
grouped : (s l a v m n r : Bool) → s && l && a && v && m && n && r ≡ s && (l && a) && v && (m && n) && r
grouped s l a v m n r =
    ap (λ (b : Bool). b && r) (and_assoc (s && l && a && v) m n ∙ ap (λ (b : Bool). b && v && (m && n)) (and_assoc s l a))

module _ (j : Program) (s : State) (jo : Journal) (v : Versions) (rs : Reads) (cs : ℕ → Checkpoint) where
  abbrev listing : ℕ → E.Read Running
  listing i = read_of (program_of j) (get_or rs.reads i no_read) (cs i)

  abbrev job_is : E.Status → E.Job Running
  job_is t = record { state = running_of (program_of j) s; journal = journal_of jo; versions = versions_of v; reads = tab rs.size listing; mark = mark_of rs.mark; status = t }

  by_code_lem : (c : Bool) → code_within j ≡ c →
      c && stands_in j.size s.place.0 s.stack.height && leb jo.size FEW && E.all (E.entry_fits limits box) (journal_of jo) && versions_within jo.size v
      && leb rs.size FEW && E.reads_fit limits box jo.size 0 (tab rs.size listing) && E.mark_fits (mark_of rs.mark) rs.size
      ≡ c && stands_in j.size s.place.0 s.stack.height && journal_within jo && versions_within jo.size v && reads_within j.size jo.size rs cs && mark_within rs.mark rs.size
  unfolding reads_within mark_within
  by_code_lem false e = refl
  by_code_lem true e =
      rw (← journal_is jo, length_journal jo, ← reads_are j e jo.size rs cs) (grouped (stands_in j.size s.place.0 s.stack.height) _ _ _ _ _ _)

  parts_are : (t : E.Status) → E.job_fits limits box (job_is t) ≡ job_within j s jo v rs cs
  unfolding E.job_fits job_within
  parts_are t = rw (state_fits j s, length_journal jo, versions_are jo.size v, length_tab rs.size listing) (by_code_lem (code_within j) refl)

pub job_is_lem : (b : Block) (k : ℕ) → E.job_fits limits box (job_of b k) ≡ job_within_at b k
unfolding job_of reads_of
job_is_lem b k = parts_are (get_or b.jobs k no_program) (get_or b.states k no_state) (get_or b.journals k no_journal) (get_or b.versions k no_versions) (get_or b.reads k no_reads) _ _

pub block_is : (b : Block) → E.block_fits limits box (block_of b) ≡ leb b.count JOBS && passes (job_within_at b) 0 b.count
unfolding E.block_fits block_of
block_is b =
    rw (length_tab b.count (job_of b))
    (ap (λ (t : Bool). leb b.count JOBS && t) (all_tab (E.job_fits limits box) b.count (job_of b) ∙ passes_same _ _ 0 b.count (λ k l. job_is_lem b k)))

-- ---- the instructions, by their bytes
pub passes_last : (f : ℕ → Bool) (k m : ℕ) → passes f k (suc m) ≡ f (k + m) && passes f k m
unfolding passes
passes_last f k zero = ap (λ (i : ℕ). f i && true) (let w : k ≡ k + 0 = omega arith in w)
passes_last f k (suc m) =
    rw (passes_last f (suc k) m) (exchanged (f k) (f (suc k + m)) (passes f (suc k) m) ∙ ap (λ (i : ℕ). f i && (f k && passes f (suc k) m)) (let w : suc k + m ≡ k + suc m = omega arith in w))
  where
    exchanged : (x y z : Bool) → x && (y && z) ≡ y && (x && z)
    exchanged true y z = refl
    exchanged false true z = refl
    exchanged false false z = refl

push_keeps : (n p x : ℕ) → instruction_within n p (record { code = PUSH; operand = x }) ≡ true
unfolding instruction_within known fits
push_keeps n p x = refl

module _ (j : Program) where
  formed_is : (m : ℕ) → m ≤ j.size → formed (program_of j) j.size m ≡ passes (λ k. instruction_within j.size k (instruction_in j k)) 0 m
  unfolding formed passes instruction_within
  formed_is zero l = refl
  formed_is (suc m) l =
      let up : m ≡ 0 + m = omega arith in
      rw (program_at j m (omega arith), formed_is m (omega arith))
      (ap (λ (i : ℕ). instruction_within j.size i (instruction_in j i) && passes (λ k. instruction_within j.size k (instruction_in j k)) 0 m) up ∙ sym (passes_last (λ k. instruction_within j.size k (instruction_in j k)) 0 m))

  keeps_is : (k : ℕ) → instruction_within j.size k (instruction_in j k) ≡ keeps_at j.size k (get_or j.codes k 0) (get_or j.arguments k 0)
  unfolding keeps_at
  keeps_is k = by_code_lem (eqb (get_or j.codes k 0) PUSH) refl
    where
      by_code_lem : (t : Bool) → eqb (get_or j.codes k 0) PUSH ≡ t
          → instruction_within j.size k (record { code = get_or j.codes k 0; operand = cond t (get_or j.pushed k 0) (get_or j.arguments k 0) })
          ≡ cond t true (instruction_within j.size k (record { code = get_or j.codes k 0; operand = get_or j.arguments k 0 }))
      by_code_lem true e = rw (eqb-true (get_or j.codes k 0) PUSH e) (push_keeps j.size k (get_or j.pushed k 0))
      by_code_lem false e = refl

  pub bytes_are : bytes_within j.codes j.arguments j.size ≡ code_within j
  unfolding bytes_within code_within
  bytes_are = rw (formed_is j.size (omega arith), passes_same _ _ 0 j.size (λ k l. keeps_is k)) refl
