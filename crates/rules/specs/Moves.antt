-- What the moves of a job need to know of the block, and the read that is listed.
use Rattle.std.specs.Prelude.{◌≡◌, ℕ, ◌+◌, ◌≤◌, length, get_or, set}
use Rattle.theory.specs.Engine as E
use Rattle.machine.specs.Machine.{Running}
use Rattle.rules.specs.View.{no_journal, no_reads, ShowingBelow}
use Rattle.rules.specs.Block.{code_at, no_state, read_of}
use Rattle.rules.specs.Marks.{ListsFit}
use Rattle.rules.specs.declared.block.Checkpoint.{Checkpoint}
use Rattle.rules.specs.declared.block.Read.{Read}
use Rattle.rules.specs.declared.block.Reads.{Reads}
use Rattle.rules.specs.declared.block.Block.{Block}

-- the block's counts are within their limits, and every version names an entry
pub record Sized (b : Block) : Type 0 where
  pub count : b.count ≤ 16
  pub showing : ShowingBelow b.journals b.versions b.count
  pub lists : ListsFit b.reads b.count

-- a checkpoint that the job at index i holds
pub record Held (b : Block) (i : ℕ) (c : Checkpoint) : Type 0 where
  pub writes : c.writes ≤ (get_or b.journals i no_journal).size
  pub listed : c.listed ≤ (get_or b.reads i no_reads).size

-- one read more at the end of a list
pub record Adds (r : Reads) (x : Read) (l : Reads) : Type 0 where
  pub long : length r.reads ≡ 8
  pub reads : l.reads ≡ set r.reads r.size x
  pub size : l.size ≡ r.size + 1
  pub mark : l.mark ≡ r.mark

-- the read x as the job at index i lists it, with its checkpoint
abbrev pub listing_of : Block → ℕ → Read → E.Read Running
listing_of b i x =
    read_of (code_at b i) x (record { state = get_or b.states i no_state; writes = (get_or b.journals i no_journal).size; listed = (get_or b.reads i no_reads).size })
