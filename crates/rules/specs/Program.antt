-- What a program stands for: the instructions of a job. The operand of a PUSH, which may be any number, stands apart from the others.
use Rattle.std.specs.Prelude.{◌≡◌, cond, List, [], map, ℕ, ◌<◌, eqb, length, get_or, replicate}
use Rattle.theory.specs.Lists.{firsts, tab, length_tab, get_d_tab}
use Rattle.machine.specs.Limits.{LONGEST, JOBS}
use Rattle.machine.specs.Instruction.{PUSH}
use Rattle.machine.specs.Machine.{stopping}
use Rattle.machine.specs.View.{code_of, no_job}
use Rattle.machine.specs.declared.instruction.Instruction.{Instruction}
use Rattle.machine.specs.declared.job.Job.{Job}
use Rattle.rules.specs.declared.block.Program.{Program}

abbrev pub no_program : Program
no_program = record { codes = []; arguments = []; pushed = []; size = 0 }

-- so many instructions, each STOP
abbrev pub stops_of : ℕ → Program
stops_of n = record { codes = replicate LONGEST 0; arguments = replicate LONGEST 0; pushed = replicate LONGEST 0; size = n }

-- where an opening puts an operand: a PUSH's among the pushed numbers, every other among the arguments; the other slot holds 0
abbrev pub argument_of : Instruction → ℕ
argument_of i = cond (eqb i.code PUSH) 0 i.operand

abbrev pub pushed_of : Instruction → ℕ
pushed_of i = cond (eqb i.code PUSH) i.operand 0

-- a job's instructions as an opening packs them, to the last byte: past the last stands 0
unfoldable pub packed : List Instruction → Program
packed is = record {
  codes = tab LONGEST (λ k. (get_or is k stopping).code);
  arguments = tab LONGEST (λ k. argument_of (get_or is k stopping));
  pushed = tab LONGEST (λ k. pushed_of (get_or is k stopping));
  size = length is;
}

-- the operand of an instruction with this code
abbrev pub operand_of : ℕ → ℕ → ℕ → ℕ
operand_of code argument number = cond (eqb code PUSH) number argument

abbrev pub instruction_in : Program → ℕ → Instruction
instruction_in p k = record { code = get_or p.codes k 0; operand = operand_of (get_or p.codes k 0) (get_or p.arguments k 0) (get_or p.pushed k 0) }

unfoldable pub program_of : Program → List Instruction
program_of p = tab p.size (instruction_in p)

pub length_program : (p : Program) → length (program_of p) ≡ p.size
unfolding program_of
length_program p = length_tab p.size (instruction_in p)

pub program_at : (p : Program) (k : ℕ) → k < p.size → get_or (program_of p) k stopping ≡ instruction_in p k
unfolding program_of
program_at p k l = get_d_tab p.size (instruction_in p) k stopping l

-- the first n of the code's jobs
abbrev pub first_jobs : ℕ → List Job → List (List Instruction)
first_jobs n js = map code_of (firsts n no_job js)

-- the programs of a block at its opening; past its jobs they have no instructions
unfoldable pub all_packed : List (List Instruction) → List Program
all_packed js = tab JOBS (λ k. packed (get_or js k []))
