-- A job's parts put back into their block: what did not change is stored as it was, so the block is the one of the plain move.
use mathlib.Core.Path.{◌≡◌, refl, ap}
use mathlib.Core.List.{List, [], ◌∷◌, ◌++◌}
use Prim.Native.Nat.{ℕ, zero, suc, ◌-◌, ◌≤◌, ◌<◌}
use native.Mathlib.Omega.{arith}
use lib.ListN.{get_or, set}
use borrow.Author.Tests.{lt-leb}
use Rattle.theory.specs.Engine.{step_to, write_to, list_to, end_with, settle, go_back, withdrawn}
use Rattle.machine.specs.declared.job.State.{State}
use Rattle.rules.specs.View.{entry_of, journal_of, versions_of, no_journal, no_versions, no_reads}
use Rattle.rules.specs.Block.{code_at, no_state, no_checkpoint, running_of, checkpoint_of, job_of}
use Rattle.rules.specs.Becomes.{Becomes}
use Rattle.rules.specs.Moves.{listing_of, Sized, Held, Adds}
use Rattle.rules.specs.Own.{still, stepped, wrote, listed, ended, settled_own, went_back, slot_at, parts_at, own_of, stored_at, placed, Long}
use Rattle.rules.specs.declared.block.Entry.{Entry}
use Rattle.rules.specs.declared.block.Journal.{Journal}
use Rattle.rules.specs.declared.block.Versions.{Versions}
use Rattle.rules.specs.declared.block.Checkpoint.{Checkpoint}
use Rattle.rules.specs.declared.block.Read.{Read}
use Rattle.rules.specs.declared.block.Reads.{Reads}
use Rattle.rules.specs.declared.block.Block.{Block}
use Rattle.words.specs.declared.word.Word.{Word}
use Rattle.rules.specs.declared.own.Own.{Own}
use Rattle.rules.proofs.Laws.Moves.{step_is, settle_is, write_is, list_is, end_is, back_is}

set_same : {A : Type 0} (xs : List A) (i : ℕ) (d : A) → set xs i (get_or xs i d) ≡ xs
set_same [] i d = refl
set_same (x ∷ xs) zero d = refl
set_same {A = A} (x ∷ xs) (suc i) d = ap (λ (l : List A). x ∷ l) (set_same xs i d)

-- parts that are stored as they were leave the block
pub stored_still : (b : Block) (i s : ℕ) (x : Word) → stored_at b i s (still x (parts_at b i s)) (set b.reads i (get_or b.reads i no_reads)) ≡ b
stored_still b i s x = λ z. record {
  start = b.start;
  count = b.count;
  jobs = b.jobs;
  states = set_same b.states i no_state z;
  status = set_same b.status i 0 z;
  journals = set_same b.journals i no_journal z;
  versions = set_same b.versions i no_versions z;
  reads = set_same b.reads i no_reads z;
  checkpoints = set_same b.checkpoints s no_checkpoint z;
}

module _ (b : Block) (t : ℕ) where
  abbrev i : ℕ
  i = t - 1

  abbrev own : Own
  own = own_of b i

  abbrev at : ℕ
  at = slot_at i (get_or b.reads i no_reads).size

  -- a turn that changes nothing
  pub placed_still : (x : Word) → placed b t (still x own) ≡ b
  unfolding placed
  placed_still x = stored_still b i at x

  module _ (p : 0 < t) (l : t ≤ b.count) (sized : Sized b) (g : Long b) where
    inside : i < b.count
    inside = omega arith

    pub becomes_step : (s : State) → Becomes b (placed b t (stepped own s)) i (step_to (job_of b i) (running_of (code_at b i) s))
    unfolding placed
    becomes_step s =
        rw (set_same b.status i 0, set_same b.journals i no_journal, set_same b.versions i no_versions, set_same b.reads i no_reads, set_same b.checkpoints at no_checkpoint)
        (step_is b i inside sized.count s g.states)

    pub becomes_final : Becomes b (placed b t (settled_own own)) i (settle (job_of b i))
    unfolding placed
    becomes_final =
        rw (set_same b.states i no_state, set_same b.journals i no_journal, set_same b.versions i no_versions, set_same b.reads i no_reads, set_same b.checkpoints at no_checkpoint)
        (settle_is b i inside sized.count g.status)

    pub becomes_write : (s : State) (e : Entry) (j : Journal) → journal_of j ≡ journal_of (get_or b.journals i no_journal) ++ (entry_of e ∷ [])
        → Becomes b (placed b t (wrote own s j)) i (write_to (job_of b i) (running_of (code_at b i) s) (entry_of e))
    unfolding placed
    becomes_write s e j q =
        rw (set_same b.status i 0, set_same b.versions i no_versions, set_same b.reads i no_reads, set_same b.checkpoints at no_checkpoint)
        (write_is b i s e j inside sized g.states g.journals q)

    pub becomes_list : (s : State) (x : Read) (r : Reads) → (get_or b.reads i no_reads).size < 8 → Adds (get_or b.reads i no_reads) x r
        → Becomes b (placed b t (listed own s r (record { state = get_or b.states i no_state; writes = (get_or b.journals i no_journal).size; listed = (get_or b.reads i no_reads).size }))) i
        (list_to (job_of b i) (running_of (code_at b i) s) (listing_of b i x))
    unfolding placed
    becomes_list s x r m a =
        rw (set_same b.status i 0, set_same b.journals i no_journal, set_same b.versions i no_versions, lt-leb 8 (get_or b.reads i no_reads).size m)
        (list_is b i s x r inside sized m g.states g.reads g.checkpoints a)

    pub becomes_end : (v : Versions) → Becomes b (placed b t (ended own v)) i (end_with (job_of b i) (versions_of v))
    unfolding placed
    becomes_end v =
        rw (set_same b.states i no_state, set_same b.journals i no_journal, set_same b.reads i no_reads, set_same b.checkpoints at no_checkpoint)
        (end_is b (record { 0 = t }) v _ p l sized g.status g.versions g.reads refl)

    pub becomes_back : (c : Checkpoint) (v : Versions) → Held b i c → versions_of v ≡ withdrawn c.writes (versions_of (get_or b.versions i no_versions))
        → Becomes b (placed b t (went_back own c.state (record { entries = (get_or b.journals i no_journal).entries; size = c.writes }) v
        (record { reads = (get_or b.reads i no_reads).reads; size = c.listed; mark = 255 }))) i (go_back (job_of b i) (checkpoint_of (code_at b i) c))
    unfolding placed
    becomes_back c v h q =
        rw (set_same b.checkpoints at no_checkpoint)
        (back_is b i c h (record { 0 = t }) v _ refl p l sized g.states g.status g.journals g.versions g.reads q refl)
