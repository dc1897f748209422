-- What a block in work stands for: a plain block, job by job and read by read.
use Rattle.std.specs.Prelude.{List, [], ℕ, zero, suc, ◌+◌, ◌*◌, get_or}
use Rattle.theory.specs.Lists.{tab}
use Rattle.theory.specs.Engine as E
use Rattle.theory.specs.Engine.{running, ended, final}
use Rattle.machine.specs.Machine.{Running}
use Rattle.machine.specs.View.{state_of}
use Rattle.machine.specs.declared.instruction.Instruction.{Instruction}
use Rattle.machine.specs.declared.job.State.{State}
use Rattle.rules.specs.Program.{no_program, program_of}
use Rattle.rules.specs.View.{journal_of, versions_of, mark_of, no_journal, no_versions, no_read, no_reads}
use Rattle.rules.specs.declared.block.Checkpoint.{Checkpoint}
use Rattle.rules.specs.declared.block.Read.{Read}
use Rattle.rules.specs.declared.block.Reads.{Reads}
use Rattle.rules.specs.declared.block.Block.{Block}

abbrev pub no_state : State
no_state = record { place = record { 0 = 0 }; stack = record { entries = []; height = 0 } }

abbrev pub no_checkpoint : Checkpoint
no_checkpoint = record { state = no_state; writes = 0; listed = 0 }

-- 0 while it runs, 1 once it has ended, and final from 2 on
abbrev pub status_of : ℕ → E.Status
status_of zero = running
status_of (suc zero) = ended
status_of (suc (suc n)) = final

abbrev pub running_of : List Instruction → State → Running
running_of is s = record { code = is; state = state_of s }

abbrev pub checkpoint_of : List Instruction → Checkpoint → E.Checkpoint Running
checkpoint_of is c = record { state = running_of is c.state; writes = c.writes; listed = c.listed }

abbrev pub read_of : List Instruction → Read → Checkpoint → E.Read Running
read_of is r c = record { cell = r.cell.0; source = r.source.0; value = r.value; checkpoint = checkpoint_of is c }

-- the listed reads of the job at index k, whose checkpoints stand from 8 * k on
unfoldable pub reads_of : List Instruction → Reads → List Checkpoint → ℕ → List (E.Read Running)
reads_of is rs cs k = tab rs.size (λ i. read_of is (get_or rs.reads i no_read) (get_or cs (8 * k + i) no_checkpoint))

-- the instructions of the job at index k
abbrev pub code_at : Block → ℕ → List Instruction
code_at b k = program_of (get_or b.jobs k no_program)

-- the job at index k
unfoldable pub job_of : Block → ℕ → E.Job Running
job_of b k = record {
  state = running_of (code_at b k) (get_or b.states k no_state);
  journal = journal_of (get_or b.journals k no_journal);
  versions = versions_of (get_or b.versions k no_versions);
  reads = reads_of (code_at b k) (get_or b.reads k no_reads) b.checkpoints k;
  mark = mark_of (get_or b.reads k no_reads).mark;
  status = status_of (get_or b.status k 0);
}

unfoldable pub block_of : Block → E.Block Running
block_of b = record { table = b.start; jobs = tab b.count (job_of b) }
