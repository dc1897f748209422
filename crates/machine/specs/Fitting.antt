-- What the pass over the heights may take for granted of an instruction that passed 5, 6 and 7: the places that it leads to are there.
use Rattle.std.specs.Prelude.{◌≡◌, ℕ, suc, ◌<◌, true}
use Rattle.machine.specs.Limits.{LONGEST}
use Rattle.machine.specs.Instruction.{leads_on, jumps}
use Rattle.machine.specs.declared.instruction.Instruction.{Instruction}

pub record Fitting (p : ℕ) (i : Instruction) : Type 0 where
  pub on : leads_on i ≡ true → suc p < LONGEST
  pub jump : jumps i ≡ true → i.operand < LONGEST
